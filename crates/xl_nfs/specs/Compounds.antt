-- What stands before a COMPOUND's operations (RFC 7531).
use Rattle.std.specs.Prelude.{ℕ, List, Result}
use Rattle.std.proofs.Common.{refl}
use Rattle.xl_base.specs.Formats.{Format}
use Rattle.xl_rpc.specs.declared.fault.RpcBad.{RpcBad}
use Rattle.xl_format.specs.Formats.{u32, ◌⋆◌, seen}
use Rattle.xl_nfs.specs.Basics.{identifier}
use Rattle.xl_nfs.specs.declared.compound.CompoundHead.{CompoundHead}

-- COMPOUND4args
pub record CompoundHeadItem : Type 0 where
  pub tag : List ℕ
  pub minorversion : ℕ
  pub count : ℕ

abbrev pub shown_compound_head : CompoundHead → CompoundHeadItem
shown_compound_head x = record { tag = x.tag.now; minorversion = x.minorversion; count = x.count }

-- COMPOUND4args, up to the number of its operations
unfoldable pub compound_head : Format CompoundHeadItem RpcBad
compound_head = seen (λ x. record { tag = x.0; minorversion = x.1.0; count = x.1.1 }) (λ x. (x.tag, (x.minorversion, x.count))) (identifier ⋆ u32 ⋆ u32) (λ _. refl) (λ _. refl)

abbrev pub compound_head_at : List ℕ → Result (CompoundHeadItem × List ℕ) RpcBad
compound_head_at bytes = compound_head.at bytes
