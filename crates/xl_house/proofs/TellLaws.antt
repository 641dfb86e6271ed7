-- What telling of effects, and settling, leave of SMB's lists.
use Rattle.std.proofs.Common.{◌≡◌, ℕ, List, [], ◌∷◌, ◌++◌, map, Option, refl, sym, ap, ◌∙◌, append_assoc, append-nil}
use Rattle.xl_base.specs.declared.event.Kind.TheVariants.{Smb}
use Rattle.xl_base.specs.declared.event.Out.{Out}
use Rattle.xl_base.specs.declared.journal.Exports.{Exports}
use Rattle.xl_base.specs.declared.name.Protocol.{Protocol}
use Rattle.xl_base.specs.declared.name.Protocol.TheVariants as protocols
use Rattle.xl_matrix.specs.declared.claim.CacheKind.{CacheKind}
use Rattle.xl_matrix.specs.declared.claim.Claim.{Claim}
use Rattle.xl_smb_state.specs.State.{Lists}
use Rattle.xl_core.specs.Frames.{who_left}
use Rattle.xl_core.specs.State.{CoreState}
use Rattle.xl_core.specs.Told.{party_protocol, told_to}
use Rattle.xl_core.specs.declared.ask.Effect.{Effect}
use Rattle.xl_core.specs.declared.ask.Effect.TheVariants as effects
use Rattle.xl_front_smb.specs.FrontSmb.{smb_shown}
use Rattle.xl_house.specs.Telling.{all_shown, framed, shown_by, showing, taken, turns_sent}
use Rattle.xl_house.specs.declared.layers.Fronts.{Fronts}
use Rattle.xl_house.proofs.OpensLaws.{StaysSo, begun_shows, shown_so}
use Rattle.xl_house.proofs.TurnLaws.{of_taken}

-- ---- what is so of opens stays

module _ (P : Lists → Type 0) (stays : StaysSo P) where
  by_so : (exports : Exports) (f : Fronts) (s : CoreState) (effect : Effect) (p : Protocol) → P f.smb.state → P (shown_by exports f s effect p).1.smb.state
  by_so exports f s effect protocols.Nlm so = so
  by_so exports f s effect protocols.Nfs so = so
  by_so exports f s effect protocols.Smb so = shown_so P stays f.smb s effect so

  pub told_so : (exports : Exports) (f : Fronts) (s : CoreState) (told : List Effect) → P f.smb.state → P (all_shown exports f s told).1.smb.state
  told_so exports f s [] so = so
  told_so exports f s (effect ∷ told) so = (let r = showing exports f s effect in told_so exports r.1 r.2 told (by_so exports f s effect (told_to effect) so))

  -- also while turns are taken
  pub taken_so : (fuel n : ℕ) (exports : Exports) (f : Fronts) (s : CoreState) → P f.smb.state → P (turns_sent exports f s (taken fuel n exports f s)).1.smb.state
  taken_so fuel n exports f s so =
      of_taken n exports (λ g t ts. P g.smb.state → P (turns_sent exports g t ts).1.smb.state) (λ g t is. is) (λ fuel g t u told e rest is. rest (told_so exports g u told is)) fuel f s so

-- ---- what tells of nobody that it waits no more leaves the lists

begun_by : (exports : Exports) (f : Fronts) (s : CoreState) (cache : Claim) (to : Option CacheKind) (call : Option ℕ) (p : Protocol) → (shown_by exports f s (effects.Begun cache to call) p).1.smb.state ≡ f.smb.state
begun_by exports f s cache to call protocols.Nlm = refl
begun_by exports f s cache to call protocols.Nfs = refl
begun_by exports f s cache to call protocols.Smb = begun_shows f.smb s cache to call

pub quiet_shows : (exports : Exports) (f : Fronts) (s : CoreState) (told : List Effect) → who_left told ≡ [] → (all_shown exports f s told).1.smb.state ≡ f.smb.state
quiet_shows exports f s [] none = refl
quiet_shows exports f s (effects.Begun cache to call ∷ told) none = (let r = showing exports f s (effects.Begun cache to call) in quiet_shows exports r.1 r.2 told none ∙ begun_by exports f s cache to call (party_protocol cache.party))
quiet_shows exports f s (effects.Expired client ∷ told) none = (let r = showing exports f s (effects.Expired client) in quiet_shows exports r.1 r.2 told none)
quiet_shows exports f s (effects.Served party k answer ∷ told) none = absurd cc
quiet_shows exports f s (effects.Cancelled party k ∷ told) none = absurd cc

-- ---- the last effect, if it is SMB's

pub last_shows : (exports : Exports) (f : Fronts) (s : CoreState) (told : List Effect) (effect : Effect) → told_to effect ≡ protocols.Smb → (all_shown exports f s (told ++ effect ∷ [])).1.smb.state ≡ (smb_shown (all_shown exports f s told).1.smb (all_shown exports f s told).2 effect).1.state
last_shows exports f s [] effect own = ap (λ (p : Protocol). (shown_by exports f s effect p).1.smb.state) own
last_shows exports f s (first ∷ told) effect own = (let r = showing exports f s first in last_shows exports r.1 r.2 told effect own)

last_sends : (exports : Exports) (f : Fronts) (s : CoreState) (told : List Effect) (effect : Effect) → (all_shown exports f s (told ++ effect ∷ [])).0 ≡ (all_shown exports f s told).0 ++ (showing exports (all_shown exports f s told).1 (all_shown exports f s told).2 effect).0
last_sends exports f s [] effect = append-nil (showing exports f s effect).0
last_sends exports f s (first ∷ told) effect =
    let r = showing exports f s first in
    let later = all_shown exports r.1 r.2 told in
    ap (λ (outs : List Out). r.0 ++ outs) (last_sends exports r.1 r.2 told effect) ∙ sym (append_assoc r.0 later.0 (showing exports later.1 later.2 effect).0)

-- what SMB's front says of it stands at the end
pub last_ends : (exports : Exports) (f : Fronts) (s : CoreState) (told : List Effect) (effect : Effect) → told_to effect ≡ protocols.Smb
    → (let r = all_shown exports f s told in (all_shown exports f s (told ++ effect ∷ [])).0 ≡ r.0 ++ map (framed Smb) (smb_shown r.1.smb r.2 effect).0)
last_ends exports f s told effect own = (let r = all_shown exports f s told in last_sends exports f s told effect ∙ ap (λ (p : Protocol). r.0 ++ (shown_by exports r.1 r.2 effect p).0) own)
