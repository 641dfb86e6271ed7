use Rattle.std.proofs.Common.{◌≡◌, List, length, sym, ap, subst, ◌∙◌, refl, arith}
use Rattle.std.proofs.lemmas.Bool.{both_ways}
use Rattle.xl_table.specs.declared.files.OnFile.{OnFile}
use Rattle.xl_table.specs.Files.{IsAt}
use Rattle.xl_table.proofs.FileLaws.{before, at_within, opened, IsOpened}
use Rattle.xl_table.proofs.files.open_file.Goals as goal

pub returns-then-is_at-clause-at : goal.returns-then-is_at-clause-at
returns-then-is_at-clause-at c =
    let lists = c.args.lists.now.items in
    let at = c.count_before-at.result in
    let there : IsAt c.args.file at lists = subst (λ (ls : List OnFile). IsAt c.args.file at ls) c.as_slice-2.ensures.value (c.is_at.ensures.0 c.if-is_at.true) in
    (there, omega (arith, at_within c.args.file at lists there, c.as_slice.ensures.len, ap (λ (ls : List OnFile). length ls) c.as_slice.ensures.value))

pub returns-clause-same : goal.returns-clause-same
returns-clause-same c =
    let file = c.args.file in
    let lists = c.args.lists.now.items in
    let at = c.count_before-at.result in
    let new : OnFile = record { file = file; pages = c.new-pages.result } in
    let is : at ≡ before file lists = c.count_before-at.ensures.count ∙ ap (λ (ls : List OnFile). before file ls) c.as_slice.ensures.value in
    let none : IsAt file at lists → ⊥ = λ there. both_ways c.is_at.result c.if-is_at.false (c.is_at.ensures.1 (subst (λ (ls : List OnFile). IsAt file at ls) (sym c.as_slice-2.ensures.value) there)) in
    let done : IsOpened file at lists c.insert.new.self.items = subst (λ (ls : List OnFile). IsOpened file at lists ls) (sym c.in_ok-insert.ensures.items) (opened file at lists new c.requires is none refl c.new-pages.ensures.items) in
    done.same

pub returns-clause-filed : goal.returns-clause-filed
returns-clause-filed c =
    let file = c.args.file in
    let lists = c.args.lists.now.items in
    let at = c.count_before-at.result in
    let new : OnFile = record { file = file; pages = c.new-pages.result } in
    let is : at ≡ before file lists = c.count_before-at.ensures.count ∙ ap (λ (ls : List OnFile). before file ls) c.as_slice.ensures.value in
    let none : IsAt file at lists → ⊥ = λ there. both_ways c.is_at.result c.if-is_at.false (c.is_at.ensures.1 (subst (λ (ls : List OnFile). IsAt file at ls) (sym c.as_slice-2.ensures.value) there)) in
    let done : IsOpened file at lists c.insert.new.self.items = subst (λ (ls : List OnFile). IsOpened file at lists ls) (sym c.in_ok-insert.ensures.items) (opened file at lists new c.requires is none refl c.new-pages.ensures.items) in
    done.filed

pub returns-clause-at : goal.returns-clause-at
returns-clause-at c =
    let file = c.args.file in
    let lists = c.args.lists.now.items in
    let at = c.count_before-at.result in
    let new : OnFile = record { file = file; pages = c.new-pages.result } in
    let is : at ≡ before file lists = c.count_before-at.ensures.count ∙ ap (λ (ls : List OnFile). before file ls) c.as_slice.ensures.value in
    let none : IsAt file at lists → ⊥ = λ there. both_ways c.is_at.result c.if-is_at.false (c.is_at.ensures.1 (subst (λ (ls : List OnFile). IsAt file at ls) (sym c.as_slice-2.ensures.value) there)) in
    let done : IsOpened file at lists c.insert.new.self.items = subst (λ (ls : List OnFile). IsOpened file at lists ls) (sym c.in_ok-insert.ensures.items) (opened file at lists new c.requires is none refl c.new-pages.ensures.items) in
    (done.there, omega (arith, c.count_before-at.ensures.within, c.as_slice.ensures.len, ap (λ (ls : List OnFile). length ls) c.as_slice.ensures.value, c.in_ok-insert.ensures.len))
