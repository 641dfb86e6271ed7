-- What an echo sends, it sends in time.
use Rattle.std.proofs.Common.{◌≡◌, ℕ, suc, ◌+◌, ◌≤◌, ◌==◌, ◌&&◌, ◌||◌, not, nat_lt, Bool, true, false, List, [], ◌∷◌, ◌++◌, length, subst, refl, arith}
use Rattle.std.proofs.lemmas.Bool.Decides.{nat_tests}
use Rattle.std.specs.List.{AllByRecursion}
use Rattle.xl_base.specs.declared.event.Dest.{Dest}
use Rattle.xl_base.specs.declared.event.Dest.TheVariants.{Conn, Back}
use Rattle.xl_base.specs.declared.event.Event.{Event}
use Rattle.xl_base.specs.declared.event.Event.TheVariants.{Open, Message, End, Called, Tick, Restart}
use Rattle.xl_base.specs.declared.event.Out.{Out}
use Rattle.xl_base.specs.declared.journal.Entry.{Entry}
use Rattle.xl_base.specs.Outs.{goes_to, IsSilent}
use Rattle.xl_base.specs.Serials.{AreInTime}
use Rattle.xl_tests_threads.specs.Echoes.{ends, has_ended, may_go, IsQuietBehind, IsEcho}

all_as : (p q : Out → Type 0) → ((o : Out) → p o → q o) → (os : List Out) → AllByRecursion p os → AllByRecursion q os
all_as p q as_q [] all = tt
all_as p q as_q (o ∷ os) all = (as_q o all.0, all_as p q as_q os all.1)

-- what may be sent behind an entry more, may be sent without it
fewer : (place : ℕ) (e : Entry) (log : List Entry) (dest : Dest) → may_go place (e ∷ log) dest ≡ true → may_go place log dest ≡ true
fewer place e log (Conn number) may = without (nat_lt number place) (ends number e.event) (has_ended number log) may where
  without : (a b c : Bool) → (a && not (b || c)) ≡ true → (a && not c) ≡ true
  without true false c may = may
  without true true c may = absurd (cc may)
  without false b c may = absurd (cc may)
fewer place e log (Back call) may = refl

not_ended : (place number : ℕ) (log : List Entry) (dest : Dest) → (e : Entry) → e.event ≡ End number → may_go place (e ∷ log) dest ≡ true → goes_to number dest ≡ false
not_ended place number log (Conn other) e is may = other_one (nat_lt other place) (has_ended other log) (subst (λ event. (nat_lt other place && not (ends other event || has_ended other log)) ≡ true) is may) where
  other_one : (a c : Bool) → (a && not (number == other || c)) ≡ true → (other == number) ≡ false
  other_one a c may = grind (arith, nat_tests)
not_ended place number log (Back call) e is may = refl

quiet_more : (place : ℕ) (x : Entry) (event : Event) (log : List Entry) (e : Entry) → x.event ≡ event → IsQuietBehind event log → AllByRecursion (λ o. may_go place (x ∷ log) o.dest ≡ true) e.outs → IsQuietBehind event (log ++ e ∷ [])
quiet_more place x (End number) log e is quiet may = more log quiet where
  more : (front : List Entry) → IsSilent number front → IsSilent number (front ++ e ∷ [])
  more [] silent = (all_as (λ o. may_go place (x ∷ log) o.dest ≡ true) (λ o. goes_to number o.dest ≡ false) (λ o may. not_ended place number log o.dest x is may) e.outs may, tt)
  more (y ∷ ys) silent = (silent.0, more ys silent.1)
quiet_more place x (Open kind) log e is quiet may = tt
quiet_more place x (Message number bytes) log e is quiet may = tt
quiet_more place x (Called call answer) log e is quiet may = tt
quiet_more place x (Tick moment) log e is quiet may = tt
quiet_more place x Restart log e is quiet may = tt

-- one entry more
pub echo_grows : (place : ℕ) (log : List Entry) (e : Entry) → IsEcho place log → AllByRecursion (λ o. may_go (place + length log) log o.dest ≡ true) e.outs → IsEcho place (log ++ e ∷ [])
echo_grows place [] e echo may = (subst (λ n. AllByRecursion (λ o. may_go n [] o.dest ≡ true) e.outs) (omega arith) may, quiet_now e.event, tt) where
  quiet_now : (event : Event) → IsQuietBehind event []
  quiet_now (End number) = tt
  quiet_now (Open kind) = tt
  quiet_now (Message number bytes) = tt
  quiet_now (Called call answer) = tt
  quiet_now (Tick moment) = tt
  quiet_now Restart = tt
echo_grows place (x ∷ xs) e echo may =
    let later : AllByRecursion (λ o. may_go (suc place + length xs) (x ∷ xs) o.dest ≡ true) e.outs = subst (λ n. AllByRecursion (λ o. may_go n (x ∷ xs) o.dest ≡ true) e.outs) (omega arith) may in
    (echo.0, quiet_more (suc place + length xs) x x.event xs e refl echo.1 later, echo_grows (suc place) xs e echo.2 (all_as (λ o. may_go (suc place + length xs) (x ∷ xs) o.dest ≡ true) (λ o. may_go (suc place + length xs) xs o.dest ≡ true) (λ o may. fewer (suc place + length xs) x xs o.dest may) e.outs later))

elsewhere : (place number : ℕ) (dest : Dest) → place ≤ number → may_go place [] dest ≡ true → goes_to number dest ≡ false
elsewhere place number (Conn other) low may = grind (arith, nat_tests)
elsewhere place number (Back call) low may = refl

silent_before : (place number : ℕ) (before behind : List Entry) → IsEcho place (before ++ behind) → place + length before ≤ number → IsSilent number before
silent_before place number [] behind echo low = tt
silent_before place number (e ∷ es) behind echo low = (all_as (λ o. may_go place [] o.dest ≡ true) (λ o. goes_to number o.dest ≡ false) (λ o may. elsewhere place number o.dest (omega arith) may) e.outs echo.0, silent_before (suc place) number es behind echo.2 (omega arith))

silent_behind : (place number : ℕ) (before behind : List Entry) (e : Entry) → IsEcho place (before ++ e ∷ behind) → e.event ≡ End number → IsSilent number behind
silent_behind place number [] behind e echo is = subst (λ event. IsQuietBehind event behind) is echo.1
silent_behind place number (x ∷ xs) behind e echo is = silent_behind (suc place) number xs behind e echo.2 is

pub echo_in_time : AreInTime (λ (first : ℕ). first) IsEcho
echo_in_time first log echo = record {
  opening = λ before behind number parts low. silent_before first number before behind (subst (IsEcho first) parts echo) low;
  ending = λ before behind e number parts is past. silent_behind first number before behind e (subst (IsEcho first) parts echo) is;
}
