-- What frames that go on send goes to their connections, and what stands behind who waits is of such.
use Rattle.std.proofs.Common.{ℕ, Bool, true, false, not, ◌&&◌, if◌then◌else◌, inl, inr, List, [], ◌∷◌, ◌++◌, map, Option, Some, None, IfSome, Result, Ok, Err}
use Rattle.std.specs.Prelude.{find, filter}
use Rattle.std.specs.List.{AllByRecursion}
use Rattle.std.proofs.lemmas.Bool.{cases_Bool}
use Rattle.xl_base.proofs.Members.{all_append}
use Rattle.xl_base.specs.declared.event.Dest.{Dest}
use Rattle.xl_base.specs.declared.event.Dest.TheVariants.{Conn}
use Rattle.xl_base.specs.declared.event.Kind.TheVariants.{Smb}
use Rattle.xl_base.specs.declared.event.Out.{Out}
use Rattle.xl_smb.specs.Compounds.{Part, compound, is_over, part_at}
use Rattle.xl_smb.specs.Heads.{head_of}
use Rattle.xl_smb.specs.declared.fault.SmbBad.{SmbBad}
use Rattle.xl_smb.specs.declared.head.SmbHead.{SmbHead}
use Rattle.xl_smb.specs.declared.related.Before.{Before}
use Rattle.xl_smb_frames.specs.Answers.{answered, answered_by, is_none, left_in, paused_with, rest_of, said, turned, waits}
use Rattle.xl_smb.specs.Related.{is_related}
use Rattle.xl_smb_frames.specs.Frames.{frame_sent, may_be_sent, opened, sent_if}
use Rattle.xl_smb_frames.specs.Waking.{woken, woken_by}
use Rattle.xl_smb_frames.specs.declared.frame.Frame.{Frame}
use Rattle.xl_smb_frames.specs.declared.frame.Paused.{Paused}
use Rattle.xl_house.specs.Machine.{part_in, sorted_in}
use Rattle.xl_house.specs.Sifting.{behind_by, is_final, last_apart, last_on, listed, message_in, message_or_none, on_top, sent_by, sift_all, sift_one, sifted, sifted_by}
use Rattle.xl_house.specs.Telling.{framed}
use Rattle.xl_house.specs.declared.frames.Going.{Going}
use Rattle.xl_house.specs.declared.frames.Sifted.{Sifted}

-- ---- lists

module _ {X : Type 0} (R : X → Type 0) where
  abbrev pub LastOf : List X × Option X → Type 0
  LastOf l = AllByRecursion R l.0 × IfSome l.1 R

  one_more : (x : X) (l : List X × Option X) → R x → LastOf l → LastOf (last_on x l)
  one_more x (xs, None) here all = (all.0, here)
  one_more x (xs, Some last) here all = ((here, all.0), all.1)

  pub all_last : (xs : List X) → AllByRecursion R xs → LastOf (last_apart xs)
  all_last [] all = (tt, tt)
  all_last (x ∷ xs) all = one_more x (last_apart xs) all.0 (all_last xs all.1)

  pub all_filter : (t : X → Bool) (xs : List X) → AllByRecursion R xs → AllByRecursion R (filter t xs)
  all_filter t [] all = tt
  all_filter t (x ∷ xs) all = elim (cases_Bool (t x)) [ inl stays ↦ rw stays (all.0, all_filter t xs all.1) | inr goes ↦ rw goes (all_filter t xs all.1) ]

  all_find : (t : X → Bool) (xs : List X) → AllByRecursion R xs → IfSome (find t xs) R
  all_find t [] all = tt
  all_find t (x ∷ xs) all = elim (cases_Bool (t x)) [ inl here ↦ rw here all.0 | inr other ↦ rw other (all_find t xs all.1) ]

-- P holds of connections, and what is sent may go to these
module _ (P : ℕ → Type 0) (Goes : Dest → Type 0) (goes : (conn : ℕ) → P conn → Goes (Conn conn)) where
  abbrev pub AllGo : List Out → Type 0
  AllGo outs = AllByRecursion (λ o. Goes o.dest) outs

  abbrev pub AreOn : List Paused → Type 0
  AreOn ps = AllByRecursion (λ p. P p.conn) ps

  abbrev pub IsOn : Frame → Type 0
  IsOn f = P f.conn × AllGo f.after

  abbrev pub AllOn : List Frame → Type 0
  AllOn fs = AllByRecursion IsOn fs

  pub record SiftedOn (w : Sifted) : Type 0 where
    pub outs : AllGo w.outs
    pub woken : AllOn w.woken
    pub paused : AreOn w.paused

  pub record GoingOn (g : Going) : Type 0 where
    pub paused : AreOn g.paused
    pub stack : AllOn g.stack
    pub outs : AllGo g.outs

  -- ---- frames

  pub sent_on : (f : Frame) → P f.conn → AllGo (map (framed Smb) (frame_sent f))
  unfolding frame_sent
  sent_on f here = by (may_be_sent f.replies) where
    by : (b : Bool) → AllGo (map (framed Smb) (sent_if b f.conn (compound f.replies)))
    by true = (goes f.conn here, tt)
    by false = tt

  pub opened_on : (conn : ℕ) (bytes : List ℕ) → P conn → IsOn (opened conn bytes)
  unfolding opened
  opened_on conn bytes here = elim (cases_Bool (is_over bytes)) [ inl over ↦ rw over (here, tt) | inr fits ↦ rw fits (here, tt) ]

  woken_on : (p : Paused) (final : List ℕ) → P p.conn → IsOn (woken p final)
  unfolding woken
  woken_on p final here = by (head_of final) where
    by : (r : Result SmbHead SmbBad) → IsOn (woken_by p final r)
    by (Err fault) = (here, tt)
    by (Ok h) = (here, tt)

  -- what stands with a part that waits
  paused_on : (conn left id : ℕ) (was : Option Before) (p : Part) (rest : List ℕ) (before : Option Before) (b : Bool) → P conn → AreOn (listed (if b then None else paused_with (record { conn = conn; before = was; left = left }) p id rest before))
  paused_on conn left id was p rest before true here = tt
  paused_on conn left id was p rest None false here = tt
  paused_on conn left id was p rest (Some before) false here = (here, tt)

  turned_on : (conn left : ℕ) (was : Option Before) (p : Part) (replies : List (List ℕ)) (after : List Out) (before : Option Before) (o : Option ℕ) → P conn → AllGo after
      → (let r = turned (record { conn = conn; before = was; left = left }) p (record { replies = replies; after = after }) before o in IsOn r.0 × AreOn (listed r.1))
  turned_on conn left was p replies after before None here go = ((here, go), tt)
  turned_on conn left was p replies after before (Some id) here go = ((here, go), paused_on conn left id was p (rest_of p) before (not (is_related p.head) && is_none (rest_of p)) here)

  pub answered_on : (f : Frame) (reply : List ℕ) → IsOn f → IsOn (answered f reply).0 × AreOn (listed (answered f reply).1)
  unfolding answered
  answered_on f reply on = by (part_at f.rest) where
    by : (o : Option Part) → (let r = answered_by (record { conn = f.conn; before = f.before; left = f.left }) (record { replies = f.replies; after = f.after }) reply o in IsOn r.0 × AreOn (listed r.1))
    by None = ((on.0, on.1), tt)
    by (Some p) = turned_on f.conn f.left f.before p (f.replies ++ said f.before p reply ∷ []) f.after (left_in f.before p (said f.before p reply)) (waits reply) on.0 on.1

  -- ---- what is sifted

  behind_on : (w : Sifted) (o : Out) (l : List Frame × Option Frame) → LastOf IsOn l → Goes o.dest → SiftedOn w → SiftedOn (behind_by w o l)
  behind_on w o (others, None) all go on = record { outs = all_append (λ x. Goes x.dest) w.outs (o ∷ []) on.outs (go, tt); woken = all.0; paused = on.paused }
  behind_on w o (others, Some f) all go on = record { outs = on.outs; woken = all_append IsOn others _ all.0 ((all.1.0, all_append (λ x. Goes x.dest) f.after (o ∷ []) all.1.1 (go, tt)), tt); paused = on.paused }

  put_on : (row : Bool) (w : Sifted) (o : Out) → Goes o.dest → SiftedOn w → SiftedOn (sent_by row w o)
  put_on true w o go on = behind_on w o (last_apart w.woken) (all_last IsOn w.woken on.woken) go on
  put_on false w o go on = record { outs = all_append (λ x. Goes x.dest) w.outs (o ∷ []) on.outs (go, tt); woken = on.woken; paused = on.paused }

  one_on : (row : Bool) (w : Sifted) (o : Out) → Goes o.dest → SiftedOn w → SiftedOn (sift_one row w o)
  unfolding sift_one
  one_on row w o go on = by (find (is_final o) w.paused) (all_find (λ p. P p.conn) (is_final o) w.paused on.paused) where
    by : (found : Option Paused) → IfSome found (λ p. P p.conn) → SiftedOn (sifted_by row w o found)
    by None here = put_on row w o go on
    by (Some p) here = record {
      outs = on.outs;
      woken = all_append IsOn w.woken (woken p (message_in o) ∷ []) on.woken (woken_on p (message_in o) here, tt);
      paused = all_filter (λ p. P p.conn) (λ q. not (is_final o q)) w.paused on.paused;
    }

  all_sifted : (row : Bool) (w : Sifted) (os : List Out) → AllGo os → SiftedOn w → SiftedOn (sift_all row w os)
  all_sifted row w [] go on = on
  all_sifted row w (o ∷ os) go on = all_sifted row (sift_one row w o) os go.1 (one_on row w o go.0 on)

  pub sifted_on : (row : Bool) (ps : List Paused) (os : List Out) → AreOn ps → AllGo os → SiftedOn (sifted row ps os)
  sifted_on row ps os on go = all_sifted row (record { outs = []; woken = []; paused = ps }) os go (record { outs = tt; woken = tt; paused = on })

  -- ---- the frames that go on

  top_on : (fs stack : List Frame) → AllOn fs → AllOn stack → AllOn (on_top fs stack)
  top_on [] stack fs_on on = on
  top_on (f ∷ fs) stack fs_on on = top_on fs (f ∷ stack) fs_on.1 (fs_on.0, on)

  pub sorted_on : (g : Going) (w : Sifted) → GoingOn g → SiftedOn w → GoingOn (sorted_in g w)
  sorted_on g w on sift = record { paused = sift.paused; stack = top_on w.woken g.stack sift.woken on.stack; outs = all_append (λ o. Goes o.dest) g.outs w.outs on.outs sift.outs }

  pub part_on : (g : Going) (f : Frame) (sent : List Out × Option Out) → GoingOn g → IsOn f → AllGo sent.0 → GoingOn (part_in g f sent)
  part_on g f sent on here go =
      let w = sifted true g.paused sent.0 in
      let sift = sifted_on true g.paused sent.0 on.paused go in
      let a = answered f (message_or_none sent.1) in
      let is = answered_on f (message_or_none sent.1) here in
      record {
        paused = all_append (λ p. P p.conn) w.paused (listed a.1) sift.paused is.1;
        stack = all_append IsOn w.woken (a.0 ∷ g.stack) sift.woken (is.0, on.stack);
        outs = all_append (λ o. Goes o.dest) g.outs w.outs on.outs sift.outs;
      }
