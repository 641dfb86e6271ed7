use Rattle.std.proofs.Common.{◌≡◌, List, ℕ, Option, [], ◌∷◌, ◌++◌, sym, ap, subst, ◌∙◌}
use Rattle.slab.specs.Slab.{Slab}
use Rattle.xl_smb_state.specs.declared.row.Open.{Open}
use Rattle.xl_smb_state.specs.Filed.{filed, IsFiled}
use Rattle.xl_smb_state.proofs.FiledLaws.{filed_added, is_filed_added, slot_vacant}
use Rattle.xl_smb_state.proofs.opens.file.Goals as goal

pub add-requires : goal.add-requires
add-requires c = slot_vacant c.args.number c.args.places.now c.args.rows.now.slots c.requires.filed c.requires.new

pub returns-clause-ok : goal.returns-clause-ok
returns-clause-ok c =
    let n = c.args.number in
    let old = c.args.places.now in
    let mid = c.reserve.new.self.slots in
    let same : mid ≡ c.args.rows.now.slots = ap (λ (s : Slab Open). s.slots) c.reserve.ensures.rest_kept in
    let slot = c.insert_reserved.result in
    let placed = c.in_ok-add.ensures.ok ∙ ap (λ (k : ℕ). old ++ (n, k) ∷ []) (c.vacant_key-slot.ensures.value ∙ sym c.insert_reserved.ensures.key) in
    filed_added n slot c.args.row old c.add.new.self mid c.insert_reserved.new.self.slots (subst (λ (ss : List (Option Open)). IsFiled old ss) (sym same) c.requires.filed) c.insert_reserved.ensures.was_vacant placed c.insert_reserved.ensures.updates.changed c.insert_reserved.ensures.updates.others
    ∙ ap (λ (ss : List (Option Open)). filed old ss ++ (n, c.args.row) ∷ []) same

pub returns-clause-filed : goal.returns-clause-filed
returns-clause-filed c =
    let n = c.args.number in
    let old = c.args.places.now in
    let mid = c.reserve.new.self.slots in
    let same : mid ≡ c.args.rows.now.slots = ap (λ (s : Slab Open). s.slots) c.reserve.ensures.rest_kept in
    let slot = c.insert_reserved.result in
    let placed = c.in_ok-add.ensures.ok ∙ ap (λ (k : ℕ). old ++ (n, k) ∷ []) (c.vacant_key-slot.ensures.value ∙ sym c.insert_reserved.ensures.key) in
    is_filed_added n slot c.args.row old c.add.new.self mid c.insert_reserved.new.self.slots (subst (λ (ss : List (Option Open)). IsFiled old ss) (sym same) c.requires.filed) c.insert_reserved.ensures.was_vacant placed c.insert_reserved.ensures.updates.changed c.insert_reserved.ensures.updates.others c.insert_reserved.ensures.len
