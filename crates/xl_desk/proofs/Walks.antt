-- What is left of a list in a walk over it.
use Rattle.std.proofs.Common.{◌≡◌, ◌≤◌, ◌<◌, ◌+◌, ℕ, zero, suc, Bool, true, List, [], ◌∷◌, ◌++◌, length, drop, get_or, sym, refl, ap, ◌∙◌, arith, append_assoc, if◌then◌else◌, Option, Some, None}
use Rattle.std.proofs.lemmas.List.{append-nil}
use Rattle.xl_base.specs.Outs.{goes_to, sent_to, outs_to}
use Rattle.xl_base.specs.declared.event.Out.{Out}
use Rattle.xl_base.specs.declared.journal.Entry.{Entry}
use Rattle.xl_desk.specs.declared.outs.Due.{Due}
use Rattle.xl_desk.specs.Due.{due_of, due_in, ahead_of, or_later, or_more}

-- one element, and those behind it
one_on : {A : Type 0} (xs : List A) (i : ℕ) (x : A) → i < length xs → x ≡ get_or xs i x → drop i xs ≡ x ∷ drop (suc i) xs
one_on [] i x low is = absurd (omega arith)
one_on (y ∷ ys) zero x low is = ap (λ z. z ∷ ys) (sym is)
one_on (y ∷ ys) (suc i) x low is = one_on ys i x (omega arith) is

pub next_of : {A : Type 0} (xs : List A) (i : ℕ) (x : A) → i < length xs → x ≡ get_or xs i x → drop i xs ≡ x ∷ drop (i + 1) xs
next_of xs i x low is = let up : suc i ≡ i + 1 = omega arith in one_on xs i x low is ∙ ap (λ n. x ∷ drop n xs) up

-- none
pub none_left : {A : Type 0} (xs : List A) (i : ℕ) → length xs ≤ i → drop i xs ≡ []
none_left [] zero past = refl
none_left [] (suc i) past = refl
none_left (x ∷ xs) zero past = absurd (omega arith)
none_left (x ∷ xs) (suc i) past = none_left xs i (omega arith)

-- what was written is all that is written
all_written : {A : Type 0} (f : List A → List ℕ) (xs : List A) (i : ℕ) (old whole : List ℕ) → f [] ≡ [] → length xs ≤ i → old ++ f (drop i xs) ≡ whole → old ≡ whole
all_written f xs i old whole empty past so = sym (append-nil old) ∙ ap (λ z. old ++ z) (sym (ap f (none_left xs i past) ∙ empty)) ∙ so

-- the bytes that outs send to a connection
pub sends : (conn : ℕ) (outs : List Out) (i : ℕ) (o : Out) (bytes old new whole : List ℕ) → i < length outs → o ≡ get_or outs i o → goes_to conn o.dest ≡ true → bytes ≡ o.bytes → new ≡ old ++ bytes → old ++ sent_to conn (drop i outs) ≡ whole → new ++ sent_to conn (drop (i + 1) outs) ≡ whole
sends conn outs i o bytes old new whole low is goes same made so =
    ap (λ (z : List ℕ). z ++ sent_to conn (drop (i + 1) outs)) (made ∙ ap (λ (z : List ℕ). old ++ z) same)
    ∙ append_assoc old o.bytes (sent_to conn (drop (i + 1) outs))
    ∙ ap (λ (b : Bool). old ++ (if b then o.bytes ++ sent_to conn (drop (i + 1) outs) else sent_to conn (drop (i + 1) outs))) (sym goes)
    ∙ ap (λ (z : List Out). old ++ sent_to conn z) (sym (next_of outs i o low is))
    ∙ so

pub all_sent : (conn : ℕ) (outs : List Out) (i : ℕ) (old whole : List ℕ) → length outs ≤ i → old ++ sent_to conn (drop i outs) ≡ whole → old ≡ whole
all_sent conn outs i old whole past so = all_written (sent_to conn) outs i old whole refl past so

-- and those that entries send
pub sends_of : (conn : ℕ) (entries : List Entry) (i : ℕ) (e : Entry) (outs : List Out) (old new whole : List ℕ) → i < length entries → e ≡ get_or entries i e → outs ≡ e.outs → new ≡ old ++ sent_to conn outs → old ++ outs_to conn (drop i entries) ≡ whole → new ++ outs_to conn (drop (i + 1) entries) ≡ whole
sends_of conn entries i e outs old new whole low is same made so =
    ap (λ (z : List ℕ). z ++ outs_to conn (drop (i + 1) entries)) (made ∙ ap (λ (z : List Out). old ++ sent_to conn z) same)
    ∙ append_assoc old (sent_to conn e.outs) (outs_to conn (drop (i + 1) entries))
    ∙ ap (λ (z : List Entry). old ++ outs_to conn z) (sym (next_of entries i e low is))
    ∙ so

pub all_sent_of : (conn : ℕ) (entries : List Entry) (i : ℕ) (old whole : List ℕ) → length entries ≤ i → old ++ outs_to conn (drop i entries) ≡ whole → old ≡ whole
all_sent_of conn entries i old whole past so = all_written (outs_to conn) entries i old whole refl past so

-- the first call that is due, and how many entries stand before its own
pub due_here : (due : Due) (entries : List Entry) (i : ℕ) (e : Entry) (outs : List Out) (call : Out) → i < length entries → e ≡ get_or entries i e → outs ≡ e.outs → Some call ≡ due_of due outs → Some call ≡ due_in due (drop i entries)
due_here due entries i e outs call low is same found = ap (λ (z : Option Out). or_later z (due_in due (drop (i + 1) entries))) (found ∙ ap (due_of due) same) ∙ ap (due_in due) (sym (next_of entries i e low is))

pub none_ahead : (due : Due) (entries : List Entry) (i : ℕ) (e : Entry) (outs : List Out) (call : Out) → i < length entries → e ≡ get_or entries i e → outs ≡ e.outs → Some call ≡ due_of due outs → 0 ≡ ahead_of due (drop i entries)
none_ahead due entries i e outs call low is same found = ap (λ (z : Option Out). or_more z (ahead_of due (drop (i + 1) entries))) (found ∙ ap (due_of due) same) ∙ ap (ahead_of due) (sym (next_of entries i e low is))

pub due_later : (due : Due) (entries : List Entry) (i : ℕ) (e : Entry) (outs : List Out) → i < length entries → e ≡ get_or entries i e → outs ≡ e.outs → None ≡ due_of due outs → due_in due (drop (i + 1) entries) ≡ due_in due (drop i entries)
due_later due entries i e outs low is same none = ap (λ (z : Option Out). or_later z (due_in due (drop (i + 1) entries))) (none ∙ ap (due_of due) same) ∙ ap (due_in due) (sym (next_of entries i e low is))

pub one_ahead : (due : Due) (entries : List Entry) (i : ℕ) (e : Entry) (outs : List Out) → i < length entries → e ≡ get_or entries i e → outs ≡ e.outs → None ≡ due_of due outs → suc (ahead_of due (drop (i + 1) entries)) ≡ ahead_of due (drop i entries)
one_ahead due entries i e outs low is same none = ap (λ (z : Option Out). or_more z (ahead_of due (drop (i + 1) entries))) (none ∙ ap (due_of due) same) ∙ ap (ahead_of due) (sym (next_of entries i e low is))

pub none_due : (due : Due) (entries : List Entry) (i : ℕ) → length entries ≤ i → None ≡ due_in due (drop i entries)
none_due due entries i past = ap (due_in due) (sym (none_left entries i past))

pub all_ahead : (due : Due) (entries : List Entry) (i : ℕ) → length entries ≤ i → 0 ≡ ahead_of due (drop i entries)
all_ahead due entries i past = ap (ahead_of due) (sym (none_left entries i past))

pub one_more_ahead : (a m n w : ℕ) → suc m ≡ n → a + n ≡ w → a + 1 + m ≡ w
one_more_ahead a m n w one so = omega arith

pub no_more_ahead : (a n w : ℕ) → 0 ≡ n → a + n ≡ w → a ≡ w
no_more_ahead a n w none so = omega arith
