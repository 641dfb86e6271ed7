use Rattle.std.proofs.Common.{◌≡◌, refl, ap, ap₂, subst, ◌∙◌, true, string_bytes, map, List}
use Rattle.std.proofs.lemmas.Result.{IfOk-weaker}
use Rattle.clap.specs.Simple.{app_of_fields}
use Rattle.clap.specs.Words.{App, FailsBy, Text, app_of, fault_of, is_simple, is_simple_and_free, subcommand_of, with_rule, with_subcommand}
use Rattle.clap.proofs.OnLiterals.{clap_on_literals}
use Rattle.xl_words.specs.Words.{program, asked}
use Rattle.xl_words.proofs.WordLaws.{strict, found_by, none_global, refused_by}
use Rattle.xl_words.proofs.words.matches.Goals as goal

simple : is_simple program ≡ true
unfolding clap_on_literals program
simple = refl

free : is_simple_and_free program ≡ true
unfolding clap_on_literals program
free = refl

made : (a : App) → a ≡ program → is_simple_and_free a ≡ true
made a e = ap is_simple_and_free e ∙ free

pub returns-clause-ok : goal.returns-clause-ok
unfolding asked program
returns-clause-ok c =
    let first_is = c.in_ok-first.ensures.shape c.new-replay.ensures.local ∙ ap₂ with_subcommand (ap app_of_fields c.subcommand_required-strict.ensures ∙ ap strict c.new-bare.ensures.app) (ap (λ (a : App). a.top) c.new-replay.ensures.app) in
    let second_is = c.in_ok-second.ensures.shape c.new-show.ensures.local ∙ ap₂ with_subcommand first_is (ap (λ (a : App). a.top) c.new-show.ensures.app) in
    let seeded_is = c.in_ok-seeded.ensures.shape c.wanted-seed.ensures.local ∙ ap₂ with_rule c.new-unasked.ensures.app c.wanted-seed.ensures.rule in
    let make_is = c.in_ok-make.ensures.shape c.wanted-count.ensures.local ∙ ap₂ with_rule seeded_is c.wanted-count.ensures.rule in
    let make_local = none_global _ _ _ c.in_ok-make.ensures.globals (none_global _ _ _ c.in_ok-seeded.ensures.globals c.new-unasked.ensures.local c.wanted-seed.ensures.local) c.wanted-count.ensures.local in
    let third_is = c.in_ok-third.ensures.shape make_local ∙ ap₂ with_subcommand second_is (ap (λ (a : App). a.top) make_is) in
    let calls_is = c.in_ok-calls.ensures.shape c.option_of-rpc.ensures.local ∙ ap₂ with_rule c.new-idle.ensures.app c.option_of-rpc.ensures.rule in
    let both_is = c.in_ok-both.ensures.shape c.option_of-smb.ensures.local ∙ ap₂ with_rule calls_is c.option_of-smb.ensures.rule in
    let kept_is = c.in_ok-kept.ensures.shape c.option_of-path.ensures.local ∙ ap₂ with_rule both_is c.option_of-path.ensures.rule in
    let wide_is = c.in_ok-wide.ensures.shape c.option_of-lanes.ensures.local ∙ ap₂ with_rule kept_is c.option_of-lanes.ensures.rule in
    let timed_is = c.in_ok-timed.ensures.shape c.option_of-turns.ensures.local ∙ ap₂ with_rule wide_is c.option_of-turns.ensures.rule in
    let serve_is = c.in_ok-serve.ensures.shape c.option_of-listen.ensures.local ∙ ap₂ with_rule timed_is c.option_of-listen.ensures.rule in
    let kept_local = none_global _ _ _ c.in_ok-kept.ensures.globals (none_global _ _ _ c.in_ok-both.ensures.globals (none_global _ _ _ c.in_ok-calls.ensures.globals c.new-idle.ensures.local c.option_of-rpc.ensures.local) c.option_of-smb.ensures.local) c.option_of-path.ensures.local in
    let serve_local = none_global _ _ _ c.in_ok-serve.ensures.globals (none_global _ _ _ c.in_ok-timed.ensures.globals (none_global _ _ _ c.in_ok-wide.ensures.globals kept_local c.option_of-lanes.ensures.local) c.option_of-turns.ensures.local) c.option_of-listen.ensures.local in
    let program_is : app_of c.in_ok-program.program ≡ program = c.in_ok-program.ensures.shape serve_local ∙ ap₂ with_subcommand third_is (ap (λ (a : App). a.top) serve_is) in
    let parse = c.try_get_matches_from in
    let words : List Text = map string_bytes c.args.words.now in
    found_by (fault_of program words) (subcommand_of program words) parse.result
    (subst (λ (a : App). FailsBy (fault_of a words) parse.result) program_is (parse.ensures.kinds (made _ program_is)))
    (IfOk-weaker parse.result _ _ (λ m h. (h (ap is_simple program_is ∙ simple)).1 ∙ ap (λ (a : App). subcommand_of a words) program_is) parse.ensures.matches)

pub returns-clause-err : goal.returns-clause-err
unfolding asked program
returns-clause-err c =
    let first_is = c.in_ok-first.ensures.shape c.new-replay.ensures.local ∙ ap₂ with_subcommand (ap app_of_fields c.subcommand_required-strict.ensures ∙ ap strict c.new-bare.ensures.app) (ap (λ (a : App). a.top) c.new-replay.ensures.app) in
    let second_is = c.in_ok-second.ensures.shape c.new-show.ensures.local ∙ ap₂ with_subcommand first_is (ap (λ (a : App). a.top) c.new-show.ensures.app) in
    let seeded_is = c.in_ok-seeded.ensures.shape c.wanted-seed.ensures.local ∙ ap₂ with_rule c.new-unasked.ensures.app c.wanted-seed.ensures.rule in
    let make_is = c.in_ok-make.ensures.shape c.wanted-count.ensures.local ∙ ap₂ with_rule seeded_is c.wanted-count.ensures.rule in
    let make_local = none_global _ _ _ c.in_ok-make.ensures.globals (none_global _ _ _ c.in_ok-seeded.ensures.globals c.new-unasked.ensures.local c.wanted-seed.ensures.local) c.wanted-count.ensures.local in
    let third_is = c.in_ok-third.ensures.shape make_local ∙ ap₂ with_subcommand second_is (ap (λ (a : App). a.top) make_is) in
    let calls_is = c.in_ok-calls.ensures.shape c.option_of-rpc.ensures.local ∙ ap₂ with_rule c.new-idle.ensures.app c.option_of-rpc.ensures.rule in
    let both_is = c.in_ok-both.ensures.shape c.option_of-smb.ensures.local ∙ ap₂ with_rule calls_is c.option_of-smb.ensures.rule in
    let kept_is = c.in_ok-kept.ensures.shape c.option_of-path.ensures.local ∙ ap₂ with_rule both_is c.option_of-path.ensures.rule in
    let wide_is = c.in_ok-wide.ensures.shape c.option_of-lanes.ensures.local ∙ ap₂ with_rule kept_is c.option_of-lanes.ensures.rule in
    let timed_is = c.in_ok-timed.ensures.shape c.option_of-turns.ensures.local ∙ ap₂ with_rule wide_is c.option_of-turns.ensures.rule in
    let serve_is = c.in_ok-serve.ensures.shape c.option_of-listen.ensures.local ∙ ap₂ with_rule timed_is c.option_of-listen.ensures.rule in
    let kept_local = none_global _ _ _ c.in_ok-kept.ensures.globals (none_global _ _ _ c.in_ok-both.ensures.globals (none_global _ _ _ c.in_ok-calls.ensures.globals c.new-idle.ensures.local c.option_of-rpc.ensures.local) c.option_of-smb.ensures.local) c.option_of-path.ensures.local in
    let serve_local = none_global _ _ _ c.in_ok-serve.ensures.globals (none_global _ _ _ c.in_ok-timed.ensures.globals (none_global _ _ _ c.in_ok-wide.ensures.globals kept_local c.option_of-lanes.ensures.local) c.option_of-turns.ensures.local) c.option_of-listen.ensures.local in
    let program_is : app_of c.in_ok-program.program ≡ program = c.in_ok-program.ensures.shape serve_local ∙ ap₂ with_subcommand third_is (ap (λ (a : App). a.top) serve_is) in
    let parse = c.try_get_matches_from in
    let words : List Text = map string_bytes c.args.words.now in
    refused_by (fault_of program words) (subcommand_of program words) parse.result
    (subst (λ (a : App). FailsBy (fault_of a words) parse.result) program_is (parse.ensures.kinds (made _ program_is)))
