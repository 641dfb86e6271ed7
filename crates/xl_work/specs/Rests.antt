-- What the links that lanes left open are sent after all joins.
use Rattle.std.specs.Prelude.{◌≡◌, ℕ, ◌+◌, ◌≤◌, Bool, true, false, List, [], ◌∷◌, length, Option, IfSome}
use Rattle.std.specs.List.{AllByRecursion}
use Rattle.xl_base.specs.declared.event.Event.{Event}
use Rattle.xl_base.specs.declared.lane.Link.{Link}
use Rattle.xl_desk.specs.declared.view.View.{View}
use Rattle.xl_work.specs.Crews.{TellsLane}
use Rattle.xl_work.specs.Lives.{HasPlace, IsQuiet, LaneLeft, is_fine}
use Rattle.xl_work.specs.declared.worker.LaneDone.{LaneDone}

-- the places up to which the links were sent all are places that the pass knows
abbrev pub ArePlaced : {O L : Type 0} → View O → List (LaneDone L) → Type 0
ArePlaced v lanes = AllByRecursion (λ d. HasPlace v d.live) lanes

module _ {O L : Type 0} (t : TellsLane L) (open_gate : Bool) where
  -- A lane, once its link was sent the rest of what the journal of the pass sends to it, if that was left open: unless memory ran out
  -- or a call of it failed, that is all that the pass had seen before at least.
  pub record IsRested (v w : View O) (d e : LaneDone L) : Type 0 where
    pub conns : e.conns ≡ d.conns
    pub left : (told : Option (List Link)) (calls : List (ℕ × Event)) → LaneLeft 0 open_gate d.end v.first v.seen told (t.links d.lane) d.conns.items d.live calls → LaneLeft 1 open_gate e.end w.first w.seen told (t.links e.lane) e.conns.items e.live calls
    pub end : is_fine e.end ≡ true → e.end ≡ d.end
    pub caught : is_fine e.end ≡ true → IfSome e.live (λ l. l.failed ≡ false → v.first + length v.seen ≤ l.from)
    pub place : HasPlace w e.live
    pub quiet : IsQuiet (t.counts d.lane) (t.counts e.lane)

  abbrev pub AreRested : View O → View O → List (LaneDone L) → List (LaneDone L) → Type 0
  AreRested v w [] [] = Unit {0}
  AreRested v w [] (e ∷ es) = ⊥
  AreRested v w (d ∷ ds) [] = ⊥
  AreRested v w (d ∷ ds) (e ∷ es) = IsRested v w d e × AreRested v w ds es
