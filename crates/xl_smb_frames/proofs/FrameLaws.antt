-- Refusals have a spelling, and replies stand in a frame.
use Rattle.std.proofs.Common.{◌≡◌, ℕ, ◌-◌, ◌≤◌, Bool, true, false, not, ◌&&◌, List, [], ◌∷◌, length, refl, sym, subst, arith}
use Rattle.std.specs.Prelude.{◌==◌, ◌^◌, ◌||◌, nat_lt}
use Rattle.std.specs.List.{AllByRecursion, list_any}
use Rattle.std.proofs.lemmas.Bool.{false≢true}
use Rattle.std.proofs.lemmas.Bool.Decides.{nat_tests}
use Rattle.xl_smb.specs.Compounds.{IsWhole}
use Rattle.xl_smb.specs.Heads.{is_notice}
use Rattle.xl_smb.specs.Messages.{ReplyStands}
use Rattle.xl_smb.specs.Replies.{Error}
use Rattle.xl_smb.specs.declared.head.SmbHead.{SmbHead}
use Rattle.xl_front_smb.specs.Replies.{credits_for, reply_head, tree_id}
use Rattle.xl_smb_frames.specs.Frames.{is_whole}

-- ---- refusals

granted : (asked : ℕ) → (credits_for asked == 0) ≡ false
unfolding credits_for
granted asked = grind (arith, nat_tests)

one_fails : (a b c d e f g : Bool) → d ≡ false → (a && b && c && d && e && f && g) ≡ false
one_fails a b c d e f g h = rw h (grind (arith, nat_tests))

no_notice : (h : SmbHead) (status tree session : ℕ) → is_notice (reply_head h status tree session) ≡ false
unfolding is_notice reply_head
no_notice h status tree session = one_fails (status == 0) (h.command == 18) true (credits_for h.credits == 0) (h.message_id == 2 ^ 64 - 1) (session == 0) (tree == 0) (granted h.credits)

stands : (h : SmbHead) (status : ℕ) → (status == 0) ≡ false → ReplyStands (reply_head h status (tree_id h.route) h.session_id) Error
unfolding reply_head
stands h status fails = record { reply = refl; form = refl; no_notice = no_notice h status (tree_id h.route) h.session_id; command = fails; has = tt }

pub refusal_stands : (h head : SmbHead) (status : ℕ) → head ≡ reply_head h status (tree_id h.route) h.session_id → (status == 0) ≡ false → ReplyStands head Error
refusal_stands h head status is fails = subst (λ x. ReplyStands x Error) (sym is) (stands h status fails)

-- ---- replies in a frame

whole : (r : List ℕ) → is_whole r ≡ true → IsWhole r
whole r h = record { long = grind (arith, nat_tests, h); short = grind (arith, nat_tests, h) }

first_of : (a b : Bool) → (not a || b) ≡ false → a ≡ true
first_of true b h = refl
first_of false b h = absurd (false≢true (sym h))

rest_of : (a b : Bool) → (not a || b) ≡ false → b ≡ false
rest_of true b h = h
rest_of false b h = absurd (false≢true (sym h))

-- where none is other than whole, all are
pub all_whole : (rs : List (List ℕ)) → list_any (λ r. not (is_whole r)) rs ≡ false → AllByRecursion IsWhole rs
all_whole [] h = tt
all_whole (r ∷ rs) h =
    let others = list_any (λ x. not (is_whole x)) rs in
    (whole r (first_of (is_whole r) others h), all_whole rs (rest_of (is_whole r) others h))
