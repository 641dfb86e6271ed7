-- What the calls of the core tell, and which delegations may be recalled.
use Rattle.std.proofs.Common.{◌≡◌, ℕ, suc, false, List, [], ◌∷◌, ◌++◌, Option, Some, None, refl, sym, ap, ◌∙◌, inl, inr, true≢false, arith}
use Rattle.std.proofs.lemmas.Bool.{cases_Bool, and_right}
use Rattle.xl_core.specs.Deeds.{GivesBack, Weakens, Renews, all_told_of}
use Rattle.xl_core.specs.Settle.{give_back, share_has, weaken}
use Rattle.xl_core.specs.State.{CoreState, MayBe}
use Rattle.xl_core.specs.Ticks.{renew}
use Rattle.xl_plan.specs.Budgets.{IsReady}
use Rattle.xl_plan.proofs.BudgetLaws.{leaves_then, ready_then}
use Rattle.xl_nfs_opens.specs.Short.{Leaves}
use Rattle.xl_nfs_opens.specs.Opens.{share_held, gives, given_up, gives_all}
use Rattle.xl_nfs_opens.specs.declared.opener.Opener.{Opener}
use Rattle.xl_nfs_state.specs.declared.stateid.StateidRow.{StateidRow}
use Rattle.xl_nfs_opens.specs.Downgrades.{weakens}
use Rattle.xl_matrix.specs.declared.claim.Rwd.{Rwd}
use Rattle.xl_matrix.specs.declared.claim.What.{What}
use Rattle.xl_matrix.specs.declared.claim.What.TheVariants.{Cache, Range, Share}
use Rattle.xl_matrix.specs.declared.claim.Claim.{Claim}
use Rattle.xl_table.specs.Held.{is_cache}
use Rattle.xl_core.specs.BreaksBegun.{is_recalled}
use Rattle.xl_core.specs.Good.{caches_of}
use Rattle.xl_core.specs.Numbers.{may_be_broken, may_be_recalled, delegations_left}

pub renew_told : (n : ℕ) (s : CoreState) (id : List ℕ) → all_told_of n s (Renews id ∷ []) ≡ []
unfolding renew
renew_told n s id = refl

pub may_be_made : (s : CoreState) → MayBe s.made s
may_be_made s = record { enough = omega arith; spent = λ _. refl }

pub give_told : (n : ℕ) (s : CoreState) (claim : Claim) → all_told_of n s (GivesBack claim ∷ []) ≡ []
unfolding give_back
give_told n s claim = refl

pub weaken_told : (n : ℕ) (s : CoreState) (claim : Claim) (access deny : Rwd) → all_told_of n s (Weakens claim access deny ∷ []) ≡ []
unfolding weaken
weaken_told n s claim access deny = refl

pub weakens_told : (n : ℕ) (s : CoreState) (share : Option Claim) (access deny : Rwd) → all_told_of n s (weakens share access deny) ≡ []
weakens_told n s None access deny = refl
weakens_told n s (Some claim) access deny =
    elim (cases_Bool (share_has claim.what access deny)) [
      | inl e ↦ rw e (weaken_told n s claim access deny)
      | inr e ↦ rw e refl
    ]

-- an ask, and what is drawn behind it
pub ask_ready : (s t : CoreState) → IsReady 4 s → Leaves 2 s t → IsReady 2 t
ask_ready s t ready leaves = ready_then s t 2 2 ready leaves

pub asked_leaves : (s t u : CoreState) → Leaves 2 s t → Leaves 2 t u → Leaves 4 s u
asked_leaves s t u first second = leaves_then s t u 2 2 first second

-- ---- delegations that may be recalled

no_break : (w : What) → is_cache w ≡ false → may_be_broken w ≡ false
no_break (Cache kind running) e = absurd (true≢false e)
no_break (Share access deny) e = refl
no_break (Range extent exclusive) e = refl

left_among : (cs : List Claim) → delegations_left cs ≡ delegations_left (caches_of cs)
left_among [] = refl
left_among (c ∷ cs) =
    elim (cases_Bool (is_cache c.what)) [
      | inl e ↦ rw e (elim (cases_Bool (may_be_recalled c)) [ inl one ↦ rw one (ap suc (left_among cs)) | inr other ↦ rw other (left_among cs) ])
      | inr e ↦ let fails : may_be_recalled c ≡ false = rw (no_break c.what e) (and_right (is_recalled c.party) false refl) in rw (e, fails) (left_among cs)
    ]

-- they are among the caches
pub left_by_caches : (cs ds : List Claim) → caches_of cs ≡ caches_of ds → delegations_left cs ≡ delegations_left ds
left_by_caches cs ds same = left_among cs ∙ ap delegations_left same ∙ sym (left_among ds)

-- nothing is told of shares that are given back
pub all_gives_told : (n : ℕ) (s : CoreState) (o : Opener) (rows : List StateidRow) → all_told_of n s (gives_all s o rows) ≡ []
unfolding give_back
all_gives_told n s o [] = refl
all_gives_told n s o (r ∷ rs) = by (share_held s o r.file) (λ t. all_gives_told n t o rs)
  where
    by : (share : Option Claim) → ((t : CoreState) → all_told_of n t (gives_all t o rs) ≡ []) → all_told_of n s (gives share ++ gives_all (given_up s share) o rs) ≡ []
    by None rest = rest s
    by (Some claim) rest = rest (give_back s claim).1
