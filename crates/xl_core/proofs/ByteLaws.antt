-- A lock that is granted holds each byte of its range, and one that is unlocked none; all other bytes are as they were.
use Rattle.std.proofs.Common.{◌≡◌, ℕ, ◌≤◌, Bool, true, false, List, [], ◌∷◌, Option, None, refl, sym, ap, subst, ◌∙◌, inl, inr}
use Rattle.xl_core.specs.Frames.{asks_to_hold}
use Rattle.xl_core.proofs.ChangeLaws.{unheld_noted}
use Rattle.std.proofs.lemmas.Bool.{cases_Bool}
use Rattle.std.specs.Prelude.{◌&&◌, if◌then◌else◌}
use Rattle.xl_base.specs.declared.name.Owner.{Owner}
use Rattle.xl_matrix.specs.Owners.{posix}
use Rattle.xl_matrix.specs.declared.claim.Claim.{Claim}
use Rattle.xl_matrix.specs.declared.claim.Extent.TheVariants.{Bytes}
use Rattle.xl_matrix.specs.declared.claim.What.{What}
use Rattle.xl_matrix.specs.declared.claim.What.TheVariants as whats
use Rattle.xl_names.specs.declared.name.Name.{Name}
use Rattle.xl_spans.specs.Spans.{within, mode_at}
use Rattle.xl_spans.specs.declared.span.Mode.{Mode}
use Rattle.xl_table.proofs.WriteBack.{is_of-true}
use Rattle.xl_table.specs.Held.{is_of, spans_of}
use Rattle.xl_wait.specs.declared.waiter.Rooms.{Rooms}
use Rattle.xl_core.proofs.DeedLaws.{deed_makes}
use Rattle.xl_core.proofs.KnownLaws.{asker_posix, known_posix}
use Rattle.xl_core.proofs.WayAsks.{ask_due, ask_own, ask_unlock, ask_way_none}
use Rattle.xl_core.proofs.WayDeeds.{then_else}
use Rattle.xl_core.specs.Askers.{asked_what, asked_whats, asked_claim, known_claim, is_named, IsFit}
use Rattle.xl_core.specs.Bytes.{AreBytes, byte_lock, no_lock}
use Rattle.xl_core.specs.Decide.{way, before_wish, does_wish, ask}
use Rattle.xl_core.specs.Deeds.{Asks}
use Rattle.xl_core.specs.Good.{IsGood}
use Rattle.xl_core.specs.Places.{ByteOf, byte_held, held_at, entered_at, cleared_at, answered_at, wished_for, then_entered, else_was}
use Rattle.xl_core.specs.State.{CoreState}
use Rattle.xl_core.specs.declared.ask.Act.{Act}
use Rattle.xl_core.specs.declared.ask.Act.TheVariants as acts
use Rattle.xl_core.specs.declared.ask.Answer.{Answer}
use Rattle.xl_core.specs.declared.ask.Answer.TheVariants as answers
use Rattle.xl_core.specs.declared.ask.Ask.{Ask}
use Rattle.xl_core.specs.declared.ask.Effect.{Effect}

-- ---- one byte

entered_byte : (held : List Claim) (a : Ask) (names : List Name) (first last : ℕ) (exclusive : Bool) (file : ℕ) (owner : Owner) (byte : ℕ) (had : List What)
    → (let c = asked_claim a (whats.Range (Bytes first last) exclusive) names in posix c.owner ≡ true → else_was (entered_at held c (ByteOf file owner byte)) had ≡ (if is_of file owner c && within first last byte then byte_lock exclusive byte else had))
entered_byte held a names first last exclusive file owner byte had named =
    let c = asked_claim a (whats.Range (Bytes first last) exclusive) names in
    elim (cases_Bool (is_of file owner c)) [
      | inr e ↦ rw e refl
      | inl e ↦
          let name : posix owner ≡ true = sym (ap posix (is_of-true file owner c e).1) ∙ named in
          rw e (rw name (elim (cases_Bool (within first last byte)) [
            | inl b ↦ rw b refl
            | inr b ↦ rw b refl
          ]))
    ]

cleared_byte : (a : Ask) (names : List Name) (first last file : ℕ) (owner : Owner) (byte : ℕ) (had : List What)
    → (let c = known_claim a (Bytes first last) false names in posix c.owner ≡ true → else_was (cleared_at c (ByteOf file owner byte)) had ≡ (if is_of file owner c && within first last byte then no_lock byte else had))
cleared_byte a names first last file owner byte had named =
    let c = known_claim a (Bytes first last) false names in
    elim (cases_Bool (is_of file owner c)) [
      | inr e ↦ rw e refl
      | inl e ↦
          let name : posix owner ≡ true = sym (ap posix (is_of-true file owner c e).1) ∙ named in
          rw e (rw name (elim (cases_Bool (within first last byte)) [
            | inl b ↦ rw b refl
            | inr b ↦ rw b refl
          ]))
    ]

-- bytes that the owner hasn't are free before
none_byte : (s : CoreState) (a : Ask) (first last file : ℕ) (owner : Owner) (byte : ℕ)
    → (let c = known_claim a (Bytes first last) false s.names in ((x : ℕ) → within first last x ≡ true → mode_at (spans_of c.file c.owner s.claims) x ≡ None)
    → held_at s (ByteOf file owner byte) ≡ (if is_of file owner c && within first last byte then no_lock byte else held_at s (ByteOf file owner byte)))
none_byte s a first last file owner byte none =
    let c = known_claim a (Bytes first last) false s.names in
    elim (cases_Bool (is_of file owner c)) [
      | inr e ↦ rw e refl
      | inl e ↦ (let same = is_of-true file owner c e in rw e (elim (cases_Bool (within first last byte)) [
        | inl b ↦ rw b (sym (λ i. byte_held (same.1 i) byte (mode_at (spans_of (same.0 i) (same.1 i) s.claims) byte)) ∙ ap (λ (m : Option Mode). byte_held c.owner byte m) (none byte b))
        | inr b ↦ rw b refl
      ]))
    ]

-- ---- an ask, at a byte

-- what an ask makes of a byte is what its answer makes of it: no break and no wish reaches one
asked_byte : (n : ℕ) (left : Rooms) (s : CoreState) (a : Ask) (file : ℕ) (owner : Owner) (byte : ℕ) → IsGood s → IsFit a
    → held_at (ask n left s a).2 (ByteOf file owner byte) ≡ else_was (answered_at (way left s a).1.claims a.act (ask n left s a).0 (ByteOf file owner byte)) (held_at s (ByteOf file owner byte))
asked_byte n left s a file owner byte good fit =
    let p = ByteOf file owner byte in
    let made = then_entered None (answered_at (way left s a).1.claims a.act (ask n left s a).0 p) in
    deed_makes n s (Asks left a) p good fit
    ∙ ap (λ (wished : Option (List What)). else_was (then_entered made wished) (held_at s p)) (no_wish (does_wish a.act) (ask n left s a).0)
    ∙ then_else None (answered_at (way left s a).1.claims a.act (ask n left s a).0 p) (held_at s p)
  where
    no_wish : (wishes : Bool) (answer : Answer) → (if wishes then wished_for a.wish answer (before_wish n left s a).2 (ByteOf file owner byte) else None) ≡ None
    no_wish false answer = refl
    no_wish true (answers.Granted c) = refl
    no_wish true (answers.Conflict c) = refl
    no_wish true (answers.Queued id) = refl
    no_wish true (answers.Recall c) = refl
    no_wish true (answers.Grace until) = refl
    no_wish true (answers.NoGrace clock) = refl
    no_wish true answers.NotRecorded = refl
    no_wish true (answers.Full limit) = refl
    no_wish true answers.NotHeld = refl
    no_wish true answers.StoreFailed = refl

-- ---- locks and unlocks

-- a granted lock of one range is held byte by byte
pub granted_bytes : (n : ℕ) (left : Rooms) (s : CoreState) (a : Ask) (first last : ℕ) (exclusive : Bool) (c : Claim) → IsGood s → IsFit a → is_named a.owner ≡ true → a.act ≡ acts.Ranges ((Bytes first last, exclusive) ∷ []) → (ask n left s a).0 ≡ answers.Granted c
    → AreBytes (asked_claim a (whats.Range (Bytes first last) exclusive) s.names) first last (byte_lock exclusive) s (ask n left s a).2
granted_bytes n left s a first last exclusive c good fit named act granted = λ file owner byte.
    let p = ByteOf file owner byte in
    let held = (way left s a).1.claims in
    let what = whats.Range (Bytes first last) exclusive in
    let same : c ≡ asked_claim a what s.names = ((ask_due n left s a what (answers.Granted c) (ap asked_what act)).0 granted).0 in
    asked_byte n left s a file owner byte good fit
    ∙ ap (λ (x : Act). else_was (answered_at held x (ask n left s a).0 p) (held_at s p)) act
    ∙ ap (λ (x : Answer). else_was (answered_at held (acts.Ranges ((Bytes first last, exclusive) ∷ [])) x p) (held_at s p)) (granted ∙ ap (λ (x : Claim). answers.Granted x) same)
    ∙ entered_byte held a s.names first last exclusive file owner byte (held_at s p) (asker_posix a s.names fit.party named)

-- an unlock leaves its owner no byte of the range, whether it had some or not
pub unlocked_bytes : (n : ℕ) (left : Rooms) (s : CoreState) (a : Ask) (first last : ℕ) (c : Claim) → IsGood s → IsFit a → is_named a.owner ≡ true → first ≤ last → a.act ≡ acts.Unlock (Bytes first last) → (ask n left s a).0 ≡ answers.Granted c
    → AreBytes (known_claim a (Bytes first last) false s.names) first last no_lock s (ask n left s a).2
unlocked_bytes n left s a first last c good fit named ends act granted = λ file owner byte.
    let p = ByteOf file owner byte in
    let held = (way left s a).1.claims in
    let claim = known_claim a (Bytes first last) false s.names in
    let same : c ≡ claim = ((ask_unlock n left s a first last (answers.Granted c) act fit.party named ends good).0 granted).0 in
    asked_byte n left s a file owner byte good fit
    ∙ ap (λ (x : Act). else_was (answered_at held x (ask n left s a).0 p) (held_at s p)) act
    ∙ ap (λ (x : Answer). else_was (answered_at held (acts.Unlock (Bytes first last)) x p) (held_at s p)) (granted ∙ ap (λ (x : Claim). answers.Granted x) same)
    ∙ cleared_byte a s.names first last file owner byte (held_at s p) (known_posix a s.names fit.party named)

-- an unlock that isn't granted changes nothing
pub unlock_stays : (n : ℕ) (left : Rooms) (s : CoreState) (a : Ask) (first last : ℕ) → IsGood s → IsFit a → is_named a.owner ≡ true → first ≤ last → a.act ≡ acts.Unlock (Bytes first last) → ((c : Claim) → (ask n left s a).0 ≡ answers.Granted c → ⊥) → (ask n left s a).2 ≡ s
unlock_stays n left s a first last good fit named ends act fails =
    (ask_own n left s a good fit.party).refused fails (λ number e. (ask_unlock n left s a first last (answers.Queued number) act fit.party named ends good).0 e)
    ∙ unheld_noted (way left s a).1 a (ask n left s a).0 (ap asks_to_hold act)
    ∙ ap (λ (w : List Effect × CoreState). w.1) (ask_way_none left s a (ap asked_whats act))

pub unheld_bytes : (n : ℕ) (left : Rooms) (s : CoreState) (a : Ask) (first last : ℕ) → IsGood s → IsFit a → is_named a.owner ≡ true → first ≤ last → a.act ≡ acts.Unlock (Bytes first last) → (ask n left s a).0 ≡ answers.NotHeld
    → AreBytes (known_claim a (Bytes first last) false s.names) first last no_lock s (ask n left s a).2
unheld_bytes n left s a first last good fit named ends act none =
    let claim = known_claim a (Bytes first last) false s.names in
    let free = (ask_unlock n left s a first last answers.NotHeld act fit.party named ends good).0 none in
    subst (AreBytes claim first last no_lock s) (sym (unlock_stays n left s a first last good fit named ends act (λ c e. not_both c (sym none ∙ e))))
    (λ file owner byte. none_byte s a first last file owner byte free)
  where
    not_both : (c : Claim) → answers.NotHeld ≡ answers.Granted c → ⊥
    not_both c e = cc
