-- What is heard, as the code tells it.
use Rattle.std.proofs.Common.{◌≡◌, ℕ, ◌+◌, ◌≤◌, false, true, Option, Some, None, List, Result, Ok, Err, OnOk, refl, sym, ap, subst, ◌∙◌, arith}
use Rattle.std.specs.Prelude.{IfOk}
use Rattle.xl_base.specs.Limits.{most_numbers}
use Rattle.xl_base.specs.declared.event.Kind.{Kind}
use Rattle.xl_base.specs.declared.event.Kind.TheVariants.{Rpc, Smb}
use Rattle.xl_base.specs.declared.event.Moment.{Moment}
use Rattle.std.proofs.lemmas.Bool.{both_ways}
use Rattle.xl_base.specs.declared.name.Protocol.TheVariants.{Nfs}
use Rattle.xl_names.specs.Names.{protocol_of}
use Rattle.xl_names.specs.declared.name.Name.{Name}
use Rattle.xl_names.specs.declared.name.Name.TheVariants.{NlmRange}
use Rattle.xl_core.specs.Askers.{is_lease}
use Rattle.xl_core.proofs.FrameLaws.{tick_frame}
use Rattle.xl_core.proofs.GoodLaws.{begun_good, tick_good}
use Rattle.xl_core.proofs.NumberLaws.{tick_numbers}
use Rattle.xl_core.proofs.StoreLaws.{may_be_made}
use Rattle.xl_core.proofs.TriedLaws.{tick_goes_on}
use Rattle.xl_core.specs.Ticks.{tick}
use Rattle.xl_core.specs.Numbers.{numbers_of}
use Rattle.xl_core.specs.State.{CoreState, MayBe, step_begun}
use Rattle.xl_core.specs.declared.ask.Effect.{Effect}
use Rattle.xl_plan.proofs.BudgetLaws.{all_come, come_same, leaves_more, leaves_then, leaves_weaker}
use Rattle.xl_plan.specs.Budgets as budgets
use Rattle.xl_front_nlm.proofs.LeaveLaws.{leaves_self, leaves_short}
use Rattle.xl_front_nlm.specs.Short.{IsShort, AreShort, IsReady, Leaves}
use Rattle.xl_base.specs.declared.journal.Exports.{Exports}
use Rattle.xl_programs.specs.Programs.{RequestItem, IncomingItem, Asked}
use Rattle.xl_programs.specs.declared.program.Program.{Program}
use Rattle.xl_nfs_opens.specs.Short as nfs
use Rattle.xl_house.specs.declared.layers.Fronts.{Fronts}
use Rattle.xl_base.specs.declared.event.Out.{Out}
use Rattle.xl_smb_frames.specs.declared.frame.Frame.{Frame}
use Rattle.xl_house.specs.declared.frames.Going.{Going}
use Rattle.xl_house.specs.Machine.{Ground, after_part, heard, part_done, part_heard, part_in, sent_of, settled_in}
use Rattle.xl_house.specs.Own.{program_own, record_own, message_own}
use Rattle.xl_house.specs.Sifting.{is_smb, last_apart}
use Rattle.xl_house.specs.State.{kind_of}
use Rattle.xl_house.specs.Telling.{Sent, grants}

-- what a front left may be told, where the names that it brings are short and nothing of it tells of a grant
pub front_ready : {P : Name → Type 0} (most : ℕ) (s t : CoreState) (effects : List Effect) → ((name : Name) → P name → IsShort name) → most ≤ most_numbers → grants effects ≡ 0 → IsReady most_numbers s → budgets.Leaves P most s t → IsReady (grants effects) t
front_ready most s t effects short few none ready leaves = record {
  core = record { good = leaves.good; numbers = omega (arith, few, none, leaves.numbers, ready.core.numbers) };
  short = all_come IsShort s.names t.names short leaves.names ready.short;
}

pub front_leaves : {P : Name → Type 0} (most : ℕ) (s t u : CoreState) (effects : List Effect) → ((name : Name) → P name → IsShort name) → most ≤ most_numbers → grants effects ≡ 0 → budgets.Leaves P most s t → Leaves (grants effects) t u → Leaves most_numbers s u
front_leaves most s t u effects short few none leaves told =
    leaves_more s u (most + grants effects) most_numbers (omega (arith, few, none)) (leaves_then s t u most (grants effects) (leaves_weaker IsShort s t most short leaves) told)

-- the same of a part, which needs no more than it may take
pub part_ready : {P : Name → Type 0} (most : ℕ) (s t : CoreState) (effects : List Effect) → ((name : Name) → P name → IsShort name) → grants effects ≡ 0 → IsReady most s → budgets.Leaves P most s t → IsReady (grants effects) t
part_ready most s t effects short none ready leaves = record {
  core = record { good = leaves.good; numbers = omega (arith, none, leaves.numbers, ready.core.numbers) };
  short = all_come IsShort s.names t.names short leaves.names ready.short;
}

pub part_leaves : {P : Name → Type 0} (most : ℕ) (s t u : CoreState) (effects : List Effect) → ((name : Name) → P name → IsShort name) → grants effects ≡ 0 → budgets.Leaves P most s t → Leaves (grants effects) t u → Leaves most s u
part_leaves most s t u effects short none leaves told =
    leaves_more s u (most + grants effects) most (omega (arith, none)) (leaves_then s t u most (grants effects) (leaves_weaker IsShort s t most short leaves) told)

-- a message may take more than a part
pub ready_part : (s : CoreState) → IsReady most_numbers s → IsReady 3 s
ready_part s ready = record { core = record { good = ready.core.good; numbers = omega (arith, ready.core.numbers) }; short = ready.short }

pub leaves_part : (s t : CoreState) → Leaves 3 s t → Leaves most_numbers s t
leaves_part s t leaves = leaves_more s t 3 most_numbers (omega arith) leaves

-- a reading of the clock adds nothing
ticked_leaves : (n : ℕ) (s : CoreState) (now : Moment) → IsReady most_numbers s → Leaves 0 s (tick n s now).1
ticked_leaves n s now ready = record {
  on = tick_goes_on n s now;
  good = tick_good n s now ready.core.good;
  numbers = omega (arith, tick_numbers n s now);
  names = come_same s.names (tick n s now).1.names (tick_frame n s now ready.core.good).names;
}

pub tick_leaves : (s t : CoreState) (now : Moment) (effects : List Effect) → IsReady most_numbers s → ((n : ℕ) → MayBe n t → tick n s now ≡ (effects, t)) → Leaves 0 s t
tick_leaves s t now effects ready is = subst (λ (r : List Effect × CoreState). Leaves 0 s r.1) (is t.made (may_be_made t)) (ticked_leaves t.made s now ready)

begun_ready : (m : ℕ) (s : CoreState) → IsReady m s → IsReady m (step_begun s)
unfolding step_begun
begun_ready m s ready = record { core = record { good = begun_good s ready.core.good; numbers = ready.core.numbers }; short = ready.short }

pub ready_begun : (m : ℕ) (s t : CoreState) → t ≡ step_begun s → IsReady m s → IsReady m t
ready_begun m s t e ready = subst (λ (x : CoreState). IsReady m x) (sym e) (begun_ready m s ready)

begun_leaves : (s : CoreState) → IsReady most_numbers s → Leaves most_numbers (step_begun s) (step_begun s)
begun_leaves s ready = leaves_self (step_begun s) most_numbers most_numbers (begun_ready most_numbers s ready)

pub leaves_begun : (s t : CoreState) → t ≡ step_begun s → IsReady most_numbers s → Leaves most_numbers (step_begun s) t
leaves_begun s t e ready = subst (λ (x : CoreState). Leaves most_numbers (step_begun s) x) (sym e) (begun_leaves s ready)

-- so whoever waits may be served
pub begun_numbers : (s : CoreState) → numbers_of (step_begun s) ≡ numbers_of s
unfolding step_begun
begun_numbers s = refl

pub begun_short : (w : CoreState) → AreShort w.names → AreShort (step_begun w).names
unfolding step_begun
begun_short w short = short

pub settle_ready : (s t : CoreState) → IsReady most_numbers s → Leaves most_numbers (step_begun s) t → IsReady 0 t
settle_ready s t ready leaves = record {
  core = record { good = leaves.good; numbers = omega (arith, leaves.numbers, ready.core.numbers, begun_numbers s) };
  short = leaves_short (step_begun s) t most_numbers leaves (begun_short s ready.short);
}

pub act_numbers : (s t u v : CoreState) → IsReady most_numbers s → Leaves most_numbers (step_begun s) t → Leaves 0 t u → v ≡ step_begun u → (numbers_of v ≤ numbers_of s + most_numbers) × AreShort v.names
act_numbers s t u v ready first next e =
    subst (λ (x : CoreState). (numbers_of x ≤ numbers_of s + most_numbers) × AreShort x.names) (sym e)
    (omega (arith, first.numbers, next.numbers, begun_numbers s, begun_numbers u), begun_short u (leaves_short t u 0 next (settle_ready s t ready first).short))

-- ---- the front of the program that is asked

pub asked_is_heard : (n : ℕ) (exports : Exports) (f : Fronts) (s : CoreState) (number : ℕ) (r : RequestItem) (program : Program) (incoming : IncomingItem) (sent : Sent)
    → Asked r ≡ incoming → r.program ≡ program → sent_of exports (Some Rpc) (program_own n exports f s number r program).given ≡ sent → sent_of exports (Some Rpc) (record_own n exports f s number incoming).given ≡ sent
asked_is_heard n exports f s number r program incoming sent e asked is =
    ap (λ (x : IncomingItem). sent_of exports (Some Rpc) (record_own n exports f s number x).given) (sym e) ∙ ap (λ (p : Program). sent_of exports (Some Rpc) (program_own n exports f s number r p).given) asked ∙ is

-- ---- a COMPOUND

-- names of NFSv4 have no part that NLM tells
nfs_short : (name : Name) → protocol_of name ≡ Nfs → IsShort name
nfs_short (NlmRange caller svid oh) e = absurd cc
nfs_short name e = tt

-- what the front of NFSv4 left may be told: nothing of it tells of a grant
pub nfs_ready : (most : ℕ) (s t : CoreState) (effects : List Effect) → most ≤ most_numbers → grants effects ≡ 0 → IsReady most_numbers s → nfs.Leaves most s t → IsReady (grants effects) t
nfs_ready most s t effects few none ready leaves = front_ready most s t effects nfs_short few none ready leaves

pub nfs_leaves : (most : ℕ) (s t u : CoreState) (effects : List Effect) → most ≤ most_numbers → grants effects ≡ 0 → nfs.Leaves most s t → Leaves (grants effects) t u → Leaves most_numbers s u
nfs_leaves most s t u effects few none leaves told = front_leaves most s t u effects nfs_short few none leaves told

-- ---- SMB

-- a message of a connection of SMB
pub packet_is_heard : (n : ℕ) (exports : Exports) (f : Fronts) (s : CoreState) (number : ℕ) (bytes : List ℕ) (kind : Option Kind) (k : Kind) (sent : Sent) → kind ≡ Some k → k ≡ Smb
    → sent_of exports (Some Smb) (message_own n exports f s (Some Smb) number bytes).given ≡ sent → sent_of exports kind (message_own n exports f s kind number bytes).given ≡ sent
packet_is_heard n exports f s number bytes kind k sent opened smb is =
    ap (λ (o : Option Kind). sent_of exports o (message_own n exports f s o number bytes).given) (opened ∙ ap (λ (x : Kind). Some x) smb) ∙ is

smb_kind : (kind : Option Kind) → is_smb kind ≡ true → kind ≡ Some Smb
smb_kind (Some Smb) h = refl
smb_kind (Some Rpc) h = absurd (both_ways false refl h)
smb_kind None h = absurd (both_ways false refl h)

-- a part of a frame that came by such a connection
pub part_is_heard : (n : ℕ) (at : Ground) (f : Fronts) (s : CoreState) (conn : ℕ) (message : List ℕ) (sent : Sent) → is_smb (kind_of at.1 conn) ≡ true
    → sent_of at.0 (Some Smb) (message_own n at.0 f s (Some Smb) conn message).given ≡ sent → part_heard n at f s conn message ≡ sent
unfolding heard
part_is_heard n at f s conn message sent smb is = packet_is_heard n at.0 f s conn message (kind_of at.1 conn) Smb sent (smb_kind (kind_of at.1 conn) smb) refl is

-- a lease's name is short
pub lease_short : (name : Name) → is_lease name ≡ true → IsShort name
lease_short (NlmRange caller svid oh) lease = absurd (both_ways false refl lease)
lease_short name lease = tt

-- ---- results of calls

pub on_ok : {T E : Type 0} (r : Result T E) (P Q : Type 0) → (P → Q) → OnOk r P → OnOk r Q
on_ok (Ok x) P Q to p = to p
on_ok (Err e) P Q to p = tt

-- where a call that is Ok has left that, what holds of what it gives
pub ok_with : {T E : Type 0} (r : Result T E) (P : Type 0) (Q R : T → Type 0) → (P → (x : T) → Q x → R x) → OnOk r P → IfOk r Q → IfOk r R
ok_with (Ok x) P Q R to p q = to p x q
ok_with (Err e) P Q R to p q = tt

-- ---- a part of a frame

-- it is heard, answered in its frame, and the table is settled
pub part_is_done : (n : ℕ) (at : Ground) (going mid last : Going) (frame : Frame) (message : List ℕ) (f g h : Fronts) (s t u : CoreState) (outs sent : List Out) (own : Option Out)
    → part_heard n at f s frame.conn message ≡ (outs, g, t) → (sent, own) ≡ last_apart outs → mid ≡ part_in going frame (sent, own) → settled_in n at.0 (mid, g, t) ≡ (last, h, u)
    → part_done n at (going, f, s) frame message true ≡ (last, h, u)
part_is_done n at going mid last frame message f g h s t u outs sent own heard apart answered settled =
    ap (λ (d : Sent). settled_in n at.0 (after_part going frame d)) heard
    ∙ ap (λ (p : List Out × Option Out). settled_in n at.0 (part_in going frame p, g, t)) (sym apart)
    ∙ ap (λ (m : Going). settled_in n at.0 (m, g, t)) (sym answered)
    ∙ settled
