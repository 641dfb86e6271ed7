-- Laws of the readings of a clock that are entered.
use Rattle.std.proofs.Common.{◌≡◌, ℕ, ◌+◌, Bool, true, false, List, [], ◌∷◌, ◌++◌, length, sym, refl, ap, ◌∙◌, subst, arith, Option, Some, None, append_assoc, length-append}
use Rattle.std.proofs.lemmas.List.{append-nil, map-append}
use Rattle.xl_base.specs.Readings.{Reads}
use Rattle.xl_base.specs.Telling.{Follows}
use Rattle.xl_base.specs.declared.event.Event.{Event}
use Rattle.xl_base.specs.declared.event.Event.TheVariants.{Tick}
use Rattle.xl_base.specs.declared.event.Moment.{Moment}
use Rattle.xl_desk.specs.Passes.{Goes, IsCalled, MadeNone}
use Rattle.xl_desk.specs.declared.view.View.{View}
use Rattle.xl_work.specs.Calls.{RoseBy}
use Rattle.xl_work.specs.Ticks.{IsTicking, IsTimed, entered, event_of, events, is_due, is_tick, moment_of, no_ticks, read, read_all, tick_of, ticks, ticks_from}
use Rattle.xl_work.specs.declared.first.Ticks.{Ticks}
use Rattle.xl_work.proofs.CallLaws.{all_more, follows_as, follows_then, goes_self, goes_then}

-- one reading more
ticks_snoc : (t : Ticks) (xs : List Moment) (m : Moment) → ticks_from t (xs ++ m ∷ []) ≡ ticks_from t xs ++ tick_of (read_all t xs) m
ticks_snoc t [] m = append-nil (tick_of t m)
ticks_snoc t (x ∷ xs) m = ap (λ more. tick_of t x ++ more) (ticks_snoc (read t x) xs m) ∙ sym (append_assoc (tick_of t x) (ticks_from (read t x) xs) (tick_of (read_all (read t x) xs) m))

read_snoc : (t : Ticks) (xs : List Moment) (m : Moment) → read_all t (xs ++ m ∷ []) ≡ read (read_all t xs) m
read_snoc t [] m = refl
read_snoc t (x ∷ xs) m = read_snoc (read t x) xs m

length_snoc : (xs : List Moment) (m : Moment) (n : ℕ) → length xs ≡ n → length (xs ++ m ∷ []) ≡ n + 1
length_snoc xs m n is = let sum = length-append xs (m ∷ []) in omega arith

module _ {O : Type 0} (told : Option (List Moment)) (before : View O) where
  -- a reading that isn't due
  pub ticking_read : (open_gate : Bool) (t : Ticks) (done : ℕ) (told' told2 : Option (List Moment)) (v : View O) (m : Moment) → IsTicking open_gate t done told before told' v → Follows told' told2 (Reads m) → is_due t (moment_of t m) ≡ false → IsTicking open_gate (read t m) (done + 1) told before told2 v
  ticking_read open_gate t done told' told2 v m ticking tells off = record {
    goes = ticking.goes;
    shares = ticking.shares;
    calls = ticking.calls;
    mine = ticking.mine;
    made = ticking.made;
    are = ticking.are;
    ticks = follows_then told told' told2 _ _ _ ticking.ticks tells (λ x y z a b.
        let none : tick_of (read_all no_ticks a.0) m ≡ [] = ap (λ u. tick_of u m) a.3 ∙ ap (λ d. entered d (moment_of t m)) off in (
          a.0 ++ m ∷ [],
          b ∙ ap (λ front. front ++ m ∷ []) a.1 ∙ append_assoc x a.0 (m ∷ []),
          a.2 ∙ sym (ticks_snoc no_ticks a.0 m ∙ ap (λ more. ticks a.0 ++ more) none ∙ append-nil (ticks a.0)),
          read_snoc no_ticks a.0 m ∙ ap (λ u. read u m) a.3,
          λ is. length_snoc a.0 m done (a.4 is),
        ));
  }

  -- one that is due, and is entered
  pub ticking_entered : (open_gate : Bool) (t : Ticks) (done place : ℕ) (told' told2 : Option (List Moment)) (v w : View O) (m entered_moment : Moment) → entered_moment ≡ moment_of t m → IsTicking open_gate t done told before told' v → Follows told' told2 (Reads m) → is_due t (moment_of t m) ≡ true → IsCalled v w place (Tick entered_moment) → IsTicking open_gate (read t m) (done + 1) told before told2 w
  ticking_entered open_gate t done place told' told2 v w m entered_moment is ticking tells on called =
      let did = subst (λ n. IsCalled v w place (Tick n)) is called in
      let c : ℕ × Event = (did.mine.0, Tick (moment_of t m)) in record {
        goes = goes_then before v w ticking.goes did.goes;
        shares = did.shares ∙ ticking.shares;
        calls = ticking.calls ++ c ∷ [];
        mine = did.mine.2 ∙ ap (λ front. front ++ c ∷ []) ticking.mine ∙ append_assoc before.mine ticking.calls (c ∷ []);
        made = (let one = did.made in let all = ticking.made in omega (arith, length-append ticking.calls (c ∷ [])));
        are = all_more (λ (d : ℕ × Event). is_tick d.1 ≡ true) ticking.calls c ticking.are refl;
        ticks = follows_then told told' told2 _ _ _ ticking.ticks tells (λ x y z a b.
            let one : tick_of (read_all no_ticks a.0) m ≡ Tick (moment_of t m) ∷ [] = ap (λ u. tick_of u m) a.3 ∙ ap (λ d. entered d (moment_of t m)) on in (
              a.0 ++ m ∷ [],
              b ∙ ap (λ front. front ++ m ∷ []) a.1 ∙ append_assoc x a.0 (m ∷ []),
              map-append event_of ticking.calls (c ∷ []) ∙ ap (λ front. front ++ Tick (moment_of t m) ∷ []) a.2 ∙ sym (ticks_snoc no_ticks a.0 m ∙ ap (λ more. ticks a.0 ++ more) one),
              read_snoc no_ticks a.0 m ∙ ap (λ u. read u m) a.3,
              λ is. length_snoc a.0 m done (a.4 is),
            ));
      }

  -- one that wasn't entered, since the lane ended
  pub ticking_cut : (open_gate : Bool) (t : Ticks) (done asked asked' : ℕ) (told' told2 : Option (List Moment)) (v w : View O) (m : Moment) → IsTicking open_gate t done told before told' v → Follows told' told2 (Reads m) → Goes v w → MadeNone v w → IsTimed false asked asked' told before told2 w
  ticking_cut open_gate t done asked asked' told' told2 v w m ticking tells goes none_more = record {
    goes = goes_then before v w ticking.goes goes;
    shares = none_more.shares ∙ ticking.shares;
    calls = ticking.calls;
    mine = none_more.mine ∙ ticking.mine;
    made = none_more.made ∙ ticking.made;
    ticks = record {
      are = ticking.are;
      ticks = follows_then told told' told2 _ _ _ ticking.ticks tells (λ x y z a b. (
        a.0 ++ m ∷ [],
        b ∙ ap (λ front. front ++ m ∷ []) a.1 ∙ append_assoc x a.0 (m ∷ []),
        (tick_of (read_all no_ticks a.0) m, ap (λ front. front ++ tick_of (read_all no_ticks a.0) m) a.2 ∙ sym (ticks_snoc no_ticks a.0 m)),
        λ e. absurd (cc e),
      ));
    };
  }

  -- the lane ended, with all readings entered that were due
  pub ticking_timed : (open_gate whole : Bool) (t : Ticks) (done asked asked' : ℕ) (told' : Option (List Moment)) (v : View O) → IsTicking open_gate t done told before told' v → (whole ≡ true → (open_gate ≡ true) × RoseBy done asked asked') → IsTimed whole asked asked' told before told' v
  ticking_timed open_gate whole t done asked asked' told' v ticking rose = record {
    goes = ticking.goes;
    shares = ticking.shares;
    calls = ticking.calls;
    mine = ticking.mine;
    made = ticking.made;
    ticks = record {
      are = ticking.are;
      ticks = follows_as told told' _ _ ticking.ticks (λ x y a. (
        a.0,
        a.1,
        ([], append-nil (events ticking.calls) ∙ a.2),
        λ is. (a.2, subst (λ n. RoseBy n asked asked') (sym (a.4 (rose is).0)) (rose is).1),
      ));
    };
  }

  -- before the first reading
  pub ticking_begins : (open_gate : Bool) → IsTicking open_gate no_ticks 0 told before told before
  ticking_begins open_gate = record {
    goes = goes_self before;
    shares = refl;
    calls = [];
    mine = sym (append-nil before.mine);
    made = omega arith;
    are = tt;
    ticks = none_yet told;
  }
    where
      none_yet : (told : Option (List Moment)) → Follows told told (λ old new. (readings : List Moment) × (new ≡ old ++ readings) × ([] ≡ ticks readings) × (read_all no_ticks readings ≡ no_ticks) × (open_gate ≡ true → length readings ≡ 0))
      none_yet None = tt
      none_yet (Some list) = ([], sym (append-nil list), refl, refl, λ _. refl)

  -- the count of turns matters if the gate is open
  pub ticking_done : (open_gate : Bool) (t : Ticks) (n m : ℕ) (told' : Option (List Moment)) (v : View O) → IsTicking open_gate t n told before told' v → (open_gate ≡ true → n ≡ m) → IsTicking open_gate t m told before told' v
  ticking_done open_gate t n m told' v ticking same = record {
    goes = ticking.goes;
    shares = ticking.shares;
    calls = ticking.calls;
    mine = ticking.mine;
    made = ticking.made;
    are = ticking.are;
    ticks = follows_as told told' _ _ ticking.ticks (λ x y a. (a.0, a.1, a.2, a.3, λ is. a.4 is ∙ same is));
  }
