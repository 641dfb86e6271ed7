-- Deeds that are no NFSv4 client's.
use Rattle.std.specs.Prelude.{◌≡◌, Bool, true, false, IfSome}
use Rattle.xl_base.specs.declared.name.Party.{Party}
use Rattle.xl_base.specs.declared.name.Protocol.{Protocol}
use Rattle.xl_base.specs.declared.name.Protocol.TheVariants as protocols
use Rattle.xl_names.specs.Names.{protocol_of}
use Rattle.xl_core.specs.Deeds.{Deed, Asks, GivesBack, Acks, Ends, Closes, Lapses, Renews, Expires}
use Rattle.xl_core.specs.Told.{party_protocol}
use Rattle.xl_core.specs.declared.ask.Who.{Who}
use Rattle.xl_core.specs.declared.ask.Who.TheVariants as who

abbrev pub is_nfs : Protocol → Bool
is_nfs protocols.Nfs = true
is_nfs protocols.Nlm = false
is_nfs protocols.Smb = false

-- the party is a client of NFSv4
abbrev pub is_nfs_party : Party → Bool
is_nfs_party p = is_nfs (party_protocol p)

-- so is who asks
abbrev pub is_nfs_who : Who → Bool
is_nfs_who (who.Named name) = is_nfs (protocol_of name)
is_nfs_who (who.Open number) = false

-- The deed asks as no client of NFSv4, gives back no claim of one, answers no break for one, and neither ends one nor lets it expire;
-- and no deadline passes by it.
abbrev pub SparesNfs : Deed → Type 0
SparesNfs (Asks left a) = is_nfs_who a.party ≡ false
SparesNfs (GivesBack claim) = is_nfs_party claim.party ≡ false
SparesNfs (Acks cache to) = is_nfs_party cache.party ≡ false
SparesNfs (Ends party) = is_nfs_party party ≡ false
SparesNfs (Closes number party) = IfSome party (λ p. is_nfs_party p ≡ false)
SparesNfs (Lapses cache) = ⊥
SparesNfs (Expires client) = ⊥
SparesNfs deed = Unit {0}

-- it renews no lease, and neither does one end by it
abbrev pub SparesLeases : Deed → Type 0
SparesLeases (Renews client) = ⊥
SparesLeases (Lapses cache) = ⊥
SparesLeases (Expires client) = ⊥
SparesLeases deed = Unit {0}
