use Rattle.std.proofs.Common.{List, find, ap, sym, ◌∙◌}
use Rattle.xl_cache.specs.Wishing.{is_its_cache, granted_kind}
use Rattle.xl_matrix.specs.declared.claim.Claim.{Claim}
use Rattle.xl_core.specs.Whole.{state_of}
use Rattle.xl_core.specs.declared.parts.Parts.{Parts}
use Rattle.xl_core.proofs.WishLaws.{own_here, kind_here, full_granted, none_granted, kind_granted}
use Rattle.xl_core.proofs.wishes.grant_wish.Goals.{in-Some+in_ok-put_cache, in_default}
use Rattle.xl_core.proofs.wishes.grant_wish.Goals as goal

pub returns-then-not-has_room-clause-state : goal.returns-then-not-has_room-clause-state
returns-then-not-has_room-clause-state c =
    let own = c.find_own_cache-own.ensures ∙ ap (λ (cs : List Claim). find (is_its_cache c.args.wanted.now) cs) (c.deref.ensures.value ∙ c.in_ok-held.ensures) ∙ own_here c.args.wanted.now c.args.parts.now.table in
    full_granted c.args.wanted.now (state_of c.args.parts.now) c.find_own_cache-own.result own (sym c.has_room.ensures.room ∙ c.if-not-has_room.true)

pub put_cache-requires-clause-own : goal.put_cache-requires-clause-own
put_cache-requires-clause-own c = c.find_own_cache-own.ensures ∙ ap (λ (cs : List Claim). find (is_its_cache c.args.wanted.now) cs) (c.deref.ensures.value ∙ c.in_ok-held.ensures) ∙ own_here c.args.wanted.now c.args.parts.now.table

pub returns-clause-state : goal.returns-clause-state
returns-clause-state c =
    let own = c.find_own_cache-own.ensures ∙ ap (λ (cs : List Claim). find (is_its_cache c.args.wanted.now) cs) (c.deref.ensures.value ∙ c.in_ok-held.ensures) ∙ own_here c.args.wanted.now c.args.parts.now.table in
    let kind = c.kind_for.ensures.is ∙ ap (λ (cs : List Claim). granted_kind c.args.wanted.now cs) (c.deref-2.ensures.value ∙ c.in_ok-held.ensures) ∙ kind_here c.args.wanted.now c.args.parts.now.table in
    elim c.match-kind_for.branch [
      | in-Some+in_ok-put_cache w ↦
          ap (λ (p : Parts). state_of p) w.parts-is
          ∙ kind_granted c.args.wanted.now (state_of c.args.parts.now) c.find_own_cache-own.result w.in-Some.kind w.put_cache.new.table (sym c.is_waited_for.ensures ∙ c.if-is_waited_for.false) own (sym c.has_room.ensures.room ∙ c.if-not-has_room.false) (sym kind ∙ w.in-Some.is) w.in_ok-put_cache.ensures
      | in_default w ↦ ap (λ (p : Parts). state_of p) w.parts-is ∙ none_granted c.args.wanted.now (state_of c.args.parts.now) (sym kind ∙ w.in_default.is)
    ]
