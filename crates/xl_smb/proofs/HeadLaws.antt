-- A header that was written is read again, whatever follows, and takes 64 bytes; what a header says.
use Rattle.std.proofs.Common.{◌≡◌, ℕ, true, List, ◌++◌, length, drop, Some, refl, ap, arith}
use Rattle.std.proofs.lemmas.Bool.Decides.{nat_tests}
use Rattle.std.proofs.lemmas.Nat.{from_le_bytes-to_le_bytes_4 as word_again, from_le_bytes-to_le_bytes_8 as long_again}
use Rattle.xl_base.specs.Codec.{little_endian}
use Rattle.xl_layout.specs.Places.{u32_at, u64_at}
use Rattle.xl_layout.specs.Layouts.{Fit}
use Rattle.xl_layout.proofs.LayoutLaws.{fields_length, again}
use Rattle.xl_smb.specs.Heads.{number_of, command_of, has_mark, async_command, is_set, is_async, HasForm, route, route_of, head_fields, head_at, head, is_notice, RouteFits, HeadFits}
use Rattle.xl_smb.specs.declared.command.Command.{Command}
use Rattle.xl_smb.specs.declared.head.Route.{Route}
use Rattle.xl_smb.specs.declared.head.Route.TheVariants.{Tree, Async}
use Rattle.xl_smb.specs.declared.head.SmbHead.{SmbHead}

route_length : (to : Route) → length (route to) ≡ 8
unfolding route little_endian
route_length (Tree id) = refl
route_length (Async id) = refl

route_again : (flags : ℕ) (to : Route) → RouteFits to → is_set async_command flags ≡ is_async to → route_of flags (route to) ≡ to
unfolding route little_endian u32_at u64_at
route_again flags (Tree id) fits form = rw (form, word_again id fits) refl
route_again flags (Async id) fits form = rw (form, long_again id fits) refl

head_fit : (h : SmbHead) → HeadFits h → HasForm h → Fit head_fields h
unfolding head_fields
head_fit h fits form =
    (refl, (fits.credit_charge, (fits.status, (fits.command, (fits.credits, (fits.flags, (fits.next_command, (fits.message_id, (route_length h.route, (fits.session_id, (fits.signature, ap (λ (to : Route). record h { route = to }) (route_again h.flags h.route fits.route form))))))))))))

pub head_length : (h : SmbHead) → HeadFits h → HasForm h → length (head h) ≡ 64
unfolding head head_fields
head_length h fits form = fields_length head_fields 64 h (head_fit h fits form)

pub head_again : (h : SmbHead) (rest : List ℕ) → HeadFits h → HasForm h → head_at (head h ++ rest) ≡ h
unfolding head head_at head_fields
head_again h rest fits form = (again head_fields h 0 64 64 0 0 64 (head h ++ rest) rest (drop 64 (head h ++ rest)) (head_fit h fits form) refl (omega arith) (omega arith) refl refl).1

pub mark_stands : (h : SmbHead) (rest : List ℕ) → has_mark (head h ++ rest) ≡ true
unfolding has_mark head head_fields
mark_stands h rest = refl

-- ---- what a header says

pub notice_says : (h : SmbHead) → is_notice h ≡ true → (h.command ≡ 18) × (h.flags ≡ 1)
unfolding is_notice
notice_says h is = (grind (arith, nat_tests), grind (arith, nat_tests))

-- the command of a number has that number
pub numbered : (n : ℕ) (c : Command) → command_of n ≡ Some c → number_of c ≡ n
numbered n c is = grind (arith, nat_tests)
