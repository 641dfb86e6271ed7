-- What the owners of the locks under an open have left once it is closed.
use Rattle.std.proofs.Common.{◌≡◌, ℕ, ◌≤◌, Bool, true, false, List, [], ◌∷◌, ◌++◌, length, Option, Some, None, refl, sym, ap, ◌∙◌, inl, inr, arith, true≢false}
use Rattle.std.proofs.lemmas.Bool.{cases_Bool, and_from, eq-eqb}
use Rattle.std.proofs.lemmas.Bool.Decides.{nat_tests}
use Rattle.std.specs.Bool.{◌==◌}
use Rattle.std.specs.List.{filter, list_any}
use Rattle.std.specs.Prelude.{not, nat_le, nat_lt}
use Rattle.xl_base.specs.Lists.{IsIn}
use Rattle.xl_base.specs.declared.name.Owner.{Owner}
use Rattle.xl_matrix.proofs.EqualLaws.{same_owners-self}
use Rattle.xl_matrix.specs.Equal.{same_owners}
use Rattle.xl_matrix.specs.declared.claim.Claim.{Claim}
use Rattle.xl_matrix.specs.declared.claim.Extent.TheVariants.{Bytes}
use Rattle.xl_matrix.specs.declared.claim.What.{What}
use Rattle.xl_names.specs.declared.name.Name.{Name}
use Rattle.xl_nfs.specs.declared.opens.CloseArgs.{CloseArgs}
use Rattle.xl_nfs_state.specs.State.{NfsLists, is_whose}
use Rattle.xl_nfs_state.specs.declared.owner.SeqidState.{SeqidState}
use Rattle.xl_nfs_state.specs.declared.stateid.StateidRow.{StateidRow}
use Rattle.xl_nfs_state.specs.declared.stateid.Whose.TheVariants as whose
use Rattle.xl_spans.specs.Spans.{within}
use Rattle.xl_spans.specs.declared.span.Span.{Span}
use Rattle.xl_table.proofs.RoomLaws.{unlock_grows}
use Rattle.xl_table.specs.Held.{is_of, spans_of}
use Rattle.xl_table.specs.Relock.{holds_byte, is_cut, most_claims}
use Rattle.xl_core.proofs.WayAsks.{ask_there, ask_unlock, ask_way_none}
use Rattle.xl_core.proofs.WayDeeds.{then_else}
use Rattle.xl_core.proofs.DeedLaws.{deed_good, deed_makes}
use Rattle.xl_core.proofs.DeedLists.{deeds_good}
use Rattle.xl_core.specs.Askers.{known_claim}
use Rattle.xl_core.specs.Decide.{Answered, ask, decided, unlocked, unlocked_bytes, unlocked_claims, way}
use Rattle.xl_core.specs.Deeds.{Asks, GivesBack, IsFitDeed, all_done}
use Rattle.xl_core.specs.Good.{IsGood}
use Rattle.xl_core.specs.Places.{ByteOf, held_at, part_of, cleared_by, unlocked_for, else_was}
use Rattle.xl_core.specs.State.{CoreState}
use Rattle.xl_core.specs.declared.ask.Answer.{Answer}
use Rattle.xl_core.specs.declared.ask.Answer.TheVariants as answers
use Rattle.xl_nfs_laws.specs.LockLaws.{unlock_claim, owner_of}
use Rattle.xl_nfs_locks.specs.Unlocks.{unlock_status}
use Rattle.xl_nfs.specs.Outcomes.{is_ok}
use Rattle.xl_nfs_opens.specs.Asks.{all_ones, unlock_ask}
use Rattle.xl_nfs_opens.specs.Closing.{opener_by, lock_owner, gives_up, ends_locks, locks_under, done_lists, close_done, share_of_open}
use Rattle.xl_nfs_opens.specs.Opens.{all_rooms, gives}
use Rattle.xl_nfs_opens.specs.Plans.{carried}
use Rattle.xl_nfs_opens.specs.declared.opener.Opener.{Opener}
use Rattle.xl_nfs_opens.proofs.OpenOwn.{open_share}
use Rattle.xl_nfs_opens.proofs.UnderLaws.{ends_own}
use Rattle.xl_nfs_laws.proofs.LockOwn.{unlock_fits}
use Rattle.xl_nfs_laws.proofs.LockStatusLaws.{freed}

-- ---- an unlock of all bytes finds room

no_cut : (last : ℕ) (ss : List Span) → list_any (is_cut 0 last) ss ≡ false
no_cut last [] = refl
no_cut last (x ∷ xs) = rw (below_none x.first) (no_cut last xs)
  where
    below_none : (n : ℕ) → nat_lt n 0 ≡ false
    below_none n = grind (arith, nat_tests)

all_first : (0 ≤ all_ones)
all_first = omega arith

all_ok : (n : ℕ) (s : CoreState) (o : Opener) (file : ℕ) → IsGood s → (answer : Answer) → (ask n all_rooms s (unlock_ask o file 0 all_ones)).0 ≡ answer → is_ok (unlock_status answer) ≡ true
all_ok n s o file good (answers.Granted c) e = refl
all_ok n s o file good answers.NotHeld e = refl
all_ok n s o file good (answers.Full limit) e =
    let c = unlock_claim s o file 0 all_ones in
    let due = (ask_unlock n all_rooms s (unlock_ask o file 0 all_ones) 0 all_ones (answers.Full limit) refl (unlock_fits o file 0 all_ones all_first).party refl all_first good).0 e in
    absurd (true≢false (sym (unlock_grows file c.owner c.party 0 all_ones s.claims good.kept.sound refl (omega (arith, due.2, good.kept.room))) ∙ no_cut all_ones (spans_of file c.owner s.claims)))
all_ok n s o file good answer e = absurd ((ask_unlock n all_rooms s (unlock_ask o file 0 all_ones) 0 all_ones answer refl (unlock_fits o file 0 all_ones all_first).party refl all_first good).0 e)

-- ---- what is free stays free

cleared_stays : (ws had : List What) → had ≡ [] → else_was (cleared_by ws) had ≡ []
cleared_stays [] had e = e
cleared_stays (w ∷ ws) had e = refl

unlocked_stays : (held : List Claim) (answer : Answer) (at : ℕ) (owner : Owner) (byte : ℕ) (had : List What) → had ≡ [] → else_was (unlocked_for held (Bytes 0 all_ones) answer (ByteOf at owner byte)) had ≡ []
unlocked_stays held (answers.Granted c) at owner byte had e = cleared_stays (part_of c (ByteOf at owner byte)) had e
unlocked_stays held answer at owner byte had e = e

step_stays : (n : ℕ) (s : CoreState) (o : Opener) (file at : ℕ) (owner : Owner) (byte : ℕ) → IsGood s → held_at s (ByteOf at owner byte) ≡ [] → held_at (ask n all_rooms s (unlock_ask o file 0 all_ones)).2 (ByteOf at owner byte) ≡ []
step_stays n s o file at owner byte good free =
    let held = (way all_rooms s (unlock_ask o file 0 all_ones)).1.claims in
    deed_makes n s (Asks all_rooms (unlock_ask o file 0 all_ones)) (ByteOf at owner byte) good (unlock_fits o file 0 all_ones all_first)
    ∙ then_else None (unlocked_for held (Bytes 0 all_ones) (ask n all_rooms s (unlock_ask o file 0 all_ones)).0 (ByteOf at owner byte)) (held_at s (ByteOf at owner byte))
    ∙ unlocked_stays held (ask n all_rooms s (unlock_ask o file 0 all_ones)).0 at owner byte (held_at s (ByteOf at owner byte)) free

step_good : (n : ℕ) (s : CoreState) (o : Opener) (file : ℕ) → IsGood s → IsGood (ask n all_rooms s (unlock_ask o file 0 all_ones)).2
step_good n s o file good = deed_good n s (Asks all_rooms (unlock_ask o file 0 all_ones)) good (unlock_fits o file 0 all_ones all_first)

bytes_names : (s : CoreState) (c : Claim) (first last : ℕ) → (unlocked_bytes s c first last).2.names ≡ s.names
bytes_names s c first last =
    elim (cases_Bool (holds_byte c.file c.owner first last s.claims)) [
      | inr none ↦ rw none refl
      | inl some ↦ rw some (elim (cases_Bool (nat_le (length (unlocked_claims c first last s.claims)) most_claims)) [
        | inl room ↦ rw room refl
        | inr full ↦ rw full refl
      ])
    ]

decided_names : (n : ℕ) (s : CoreState) (o : Opener) (file : ℕ) → (decided n all_rooms s (unlock_ask o file 0 all_ones)).2.names ≡ s.names
unfolding decided unlocked
decided_names n s o file = bytes_names s (known_claim (unlock_ask o file 0 all_ones) (Bytes 0 all_ones) false s.names) 0 all_ones

step_names : (n : ℕ) (s : CoreState) (o : Opener) (file : ℕ) → (ask n all_rooms s (unlock_ask o file 0 all_ones)).2.names ≡ s.names
step_names n s o file =
    ap (λ (r : Answered). r.2.names) (ask_there n all_rooms s (unlock_ask o file 0 all_ones) (ask_way_none all_rooms s (unlock_ask o file 0 all_ones) refl)) ∙ decided_names n s o file

rest_stays : (n : ℕ) (s : CoreState) (l : NfsLists) (r : StateidRow) (qs : List StateidRow) (at : ℕ) (owner : Owner) (byte : ℕ) → IsGood s → held_at s (ByteOf at owner byte) ≡ [] → held_at (all_done n s (ends_locks l r qs)) (ByteOf at owner byte) ≡ []
rest_stays n s l r [] at owner byte good free = free
rest_stays n s l r (q ∷ qs) at owner byte good free = by (opener_by l r.client (lock_owner q.holder)) (λ t g f. rest_stays n t l r qs at owner byte g f)
  where
    by : (o : Option Opener) → ((t : CoreState) → IsGood t → held_at t (ByteOf at owner byte) ≡ [] → held_at (all_done n t (ends_locks l r qs)) (ByteOf at owner byte) ≡ []) → held_at (all_done n s (gives_up r.file o ++ ends_locks l r qs)) (ByteOf at owner byte) ≡ []
    by None rest = rest s good free
    by (Some o) rest = rest (ask n all_rooms s (unlock_ask o r.file 0 all_ones)).2 (step_good n s o r.file good) (step_stays n s o r.file at owner byte good free)

-- ---- each owner's bytes

own_claim : (c : Claim) → is_of c.file c.owner c ≡ true
own_claim c = and_from (c.file == c.file) (same_owners c.owner c.owner) (eq-eqb c.file c.file refl) (same_owners-self c.owner)

within_all : (byte : ℕ) → byte ≤ all_ones → within 0 all_ones byte ≡ true
within_all byte le = grind (arith, nat_tests, le)

own_free : (n : ℕ) (s : CoreState) (o : Opener) (file byte : ℕ) → IsGood s → byte ≤ all_ones → held_at (ask n all_rooms s (unlock_ask o file 0 all_ones)).2 (ByteOf file (owner_of s.names o) byte) ≡ []
own_free n s o file byte good le =
    let c = unlock_claim s o file 0 all_ones in
    let x = ask n all_rooms s (unlock_ask o file 0 all_ones) in
    freed n s o file 0 all_ones good all_first x.0 refl (all_ok n s o file good x.0 refl) file (owner_of s.names o) byte
    ∙ rw (own_claim c) (rw (within_all byte le) refl)

each_free : (n : ℕ) (s : CoreState) (l : NfsLists) (r : StateidRow) (qs : List StateidRow) (q : StateidRow) (o : Opener) (names : List Name) (byte : ℕ) → IsGood s → s.names ≡ names → IsIn q qs → opener_by l r.client (lock_owner q.holder) ≡ Some o → byte ≤ all_ones → held_at (all_done n s (ends_locks l r qs)) (ByteOf r.file (owner_of names o) byte) ≡ []
each_free n s l r [] q o names byte good same there named le = absurd there
each_free n s l r (x ∷ xs) q o names byte good same (inl is) named le =
    let mine : opener_by l r.client (lock_owner x.holder) ≡ Some o = ap (λ (y : StateidRow). opener_by l r.client (lock_owner y.holder)) is ∙ named in
    let t = (ask n all_rooms s (unlock_ask o r.file 0 all_ones)).2 in
    ap (λ (w : Option Opener). held_at (all_done n s (gives_up r.file w ++ ends_locks l r xs)) (ByteOf r.file (owner_of names o) byte)) mine
    ∙ rest_stays n t l r xs r.file (owner_of names o) byte (step_good n s o r.file good) (ap (λ (ns : List Name). held_at t (ByteOf r.file (owner_of ns o) byte)) (sym same) ∙ own_free n s o r.file byte good le)
each_free n s l r (x ∷ xs) q o names byte good same (inr later) named le = by (opener_by l r.client (lock_owner x.holder)) (λ t g e. each_free n t l r xs q o names byte g e later named le)
  where
    by : (w : Option Opener) → ((t : CoreState) → IsGood t → t.names ≡ names → held_at (all_done n t (ends_locks l r xs)) (ByteOf r.file (owner_of names o) byte) ≡ []) → held_at (all_done n s (gives_up r.file w ++ ends_locks l r xs)) (ByteOf r.file (owner_of names o) byte) ≡ []
    by None rest = rest s good same
    by (Some w) rest = rest (ask n all_rooms s (unlock_ask w r.file 0 all_ones)).2 (step_good n s w r.file good) (step_names n s w r.file ∙ same)

-- ---- the share goes behind them

given_stays : (n : ℕ) (s : CoreState) (share : Option Claim) (at : ℕ) (owner : Owner) (byte : ℕ) → IsGood s → ((claim : Claim) → share ≡ Some claim → IsFitDeed s (GivesBack claim)) → held_at s (ByteOf at owner byte) ≡ [] → held_at (all_done n s (gives share)) (ByteOf at owner byte) ≡ []
given_stays n s None at owner byte good fit free = free
given_stays n s (Some claim) at owner byte good fit free = deed_makes n s (GivesBack claim) (ByteOf at owner byte) good (fit claim refl) ∙ cleared_stays (part_of claim (ByteOf at owner byte)) (held_at s (ByteOf at owner byte)) free

pub closed_free : (n : ℕ) (s : CoreState) (l : NfsLists) (current : Option ℕ) (a : CloseArgs) (r : StateidRow) (owner : ℕ) (seqids : SeqidState) (q : StateidRow) (o : Opener) (byte : ℕ) → IsGood s → IsIn q (locks_under l r.number) → opener_by l r.client (lock_owner q.holder) ≡ Some o → byte ≤ all_ones → held_at (carried n s l (close_done s l current a r owner seqids None)).4 (ByteOf r.file (owner_of s.names o) byte) ≡ []
closed_free n s l current a r owner seqids q o byte good there named le =
    let Any : List ℕ → Type 0 = λ _. Unit {0} in
    let ds = ends_locks l r (locks_under l r.number) in
    let t = all_done n s ds in
    let left : IsGood t = deeds_good n s ds good (ends_own n s l Any r (locks_under l r.number) (λ c e. tt)).0 in
    given_stays n t (share_of_open t l r owner) r.file (owner_of s.names o) byte left (λ claim e. (open_share t l Any r owner claim left (λ c f. tt) e).0) (each_free n s l r (locks_under l r.number) q o s.names byte good refl there named le)

module _ {A : Type 0} where
  none_kept : (p : A → Bool) (xs : List A) → filter p (filter (λ x. not (p x)) xs) ≡ []
  none_kept p [] = refl
  none_kept p (x ∷ xs) =
      elim (cases_Bool (p x)) [
        | inl e ↦ rw e (none_kept p xs)
        | inr e ↦ rw e (rw e (none_kept p xs))
      ]

pub closed_alone : (n : ℕ) (s : CoreState) (l : NfsLists) (current : Option ℕ) (a : CloseArgs) (r : StateidRow) (owner : ℕ) (seqids : SeqidState) → locks_under (carried n s l (close_done s l current a r owner seqids None)).3 r.number ≡ []
closed_alone n s l current a r owner seqids =
    let t = all_done n s (ends_locks l r (locks_under l r.number)) in
    none_kept (is_whose (whose.Under r.number)) (done_lists t l r owner seqids 4 a.seqid seqids.confirmed (Some r.number) r.standing.access r.standing.deny true).stateids
