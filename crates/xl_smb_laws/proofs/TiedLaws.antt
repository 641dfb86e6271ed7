-- The lists are tied to the core, whatever comes to the front.
use Rattle.std.proofs.Common.{◌≡◌, ℕ, ◌≤◌, List, [], ◌∷◌, Some, sym, ap, subst, ◌∙◌, arith}
use Rattle.xl_base.specs.declared.journal.Exports.{Exports}
use Rattle.xl_base.specs.declared.name.Owner.TheVariants as owners
use Rattle.xl_matrix.specs.declared.claim.Claim.{Claim}
use Rattle.xl_matrix.specs.declared.claim.Rwd.{Rwd}
use Rattle.xl_matrix.specs.declared.claim.What.TheVariants.{Share}
use Rattle.xl_smb_state.proofs.RowLaws.{none_some}
use Rattle.xl_smb_state.specs.Links.{AreDistinct}
use Rattle.xl_smb_state.specs.State.{Lists, open_of}
use Rattle.xl_smb_state.specs.declared.row.Open.{Open}
use Rattle.xl_core.specs.Good.{IsGood}
use Rattle.xl_core.specs.Places.{ShareOf, held_in}
use Rattle.xl_core.specs.State.{CoreState}
use Rattle.xl_front_smb.specs.Ending.{smb_end, smb_end_deeds}
use Rattle.xl_front_smb.specs.FrontSmb.{smb_step}
use Rattle.xl_front_smb.specs.State.{FrontSmb, empty_smb_front, smb_begin}
use Rattle.xl_smb_laws.specs.TiedRows.{AreSmbTied}
use Rattle.xl_smb_laws.specs.WaitingRequests.{AreAwaited}
use Rattle.xl_smb_laws.proofs.GivenNumberLaws.{begun_numbered, deeds_rise, end_numbered, later_numbered, start_numbered, step_numbered}
use Rattle.xl_smb_laws.proofs.RequestDeedLaws.{end_does}
use Rattle.xl_smb_laws.proofs.RequestOwn.{end_own, end_takes}
use Rattle.xl_smb_laws.proofs.TiedRowLaws.{begun_shares, end_shares, step_shares}

pub start_tied : (s : CoreState) → AreSmbTied s empty_smb_front.state
start_tied s = record { numbers = start_numbered s.counter; shares = λ number row at. absurd (none_some at) }

pub begun_tied : (f : FrontSmb) (s : CoreState) (conn : ℕ) → AreSmbTied s f.state → AreSmbTied s (smb_begin f conn).state
begun_tied f s conn tied = record { numbers = begun_numbered s.counter f conn tied.numbers; shares = begun_shares s f conn tied.shares }

pub step_tied : (n : ℕ) (exports : Exports) (others : ℕ) (f : FrontSmb) (s : CoreState) (conn : ℕ) (bytes : List ℕ) → IsGood s → AreDistinct f.state → AreAwaited s f.state → AreSmbTied s f.state → AreSmbTied (smb_step n exports others f s conn bytes).3 (smb_step n exports others f s conn bytes).2.state
step_tied n exports others f s conn bytes good distinct awaited tied = record {
  numbers = (step_numbered n exports others f s conn bytes good tied.numbers).1;
  shares = step_shares n exports others f s conn bytes good distinct awaited tied.shares;
}

-- the end of a connection takes no number back
ends_rise : (f : FrontSmb) (s : CoreState) (conn : ℕ) → IsGood s → s.counter ≤ (smb_end f s conn).2.counter
ends_rise f s conn good =
    let up = deeds_rise 0 s s.names conn f.state s.counter (smb_end_deeds f s conn) good (end_takes 0 f s conn) (end_own f s conn) in
    subst (λ (t : CoreState). s.counter ≤ t.counter) (sym (end_does 0 f s conn)) (omega (arith, up))

pub end_tied : (f : FrontSmb) (s : CoreState) (conn : ℕ) → IsGood s → AreDistinct f.state → AreAwaited s f.state → AreSmbTied s f.state → AreSmbTied (smb_end f s conn).2 (smb_end f s conn).1.state
end_tied f s conn good distinct awaited tied = record {
  numbers = later_numbered s.counter (smb_end f s conn).2.counter (smb_end f s conn).1.state (ends_rise f s conn good) (end_numbered s.counter f s conn tied.numbers);
  shares = end_shares f s conn good distinct awaited tied.shares;
}

-- ---- a machine that doesn't

no_share : (access deny : Rwd) → [] ≡ (Share access deny ∷ []) → ⊥
no_share access deny e = cc

-- one keeps an open in the lists, and nothing of it in the core
pub shareless_is : (s : CoreState) (l : Lists) (number : ℕ) (row : Open) → open_of number l ≡ Some row → s.claims ≡ [] → AreSmbTied s l → ⊥
shareless_is s l number row at none tied =
    let holds = tied.shares number row at in
    no_share holds.0 holds.1 (sym (ap (λ (cs : List Claim). held_in cs (ShareOf row.file (owners.Open number))) none) ∙ holds.2)
