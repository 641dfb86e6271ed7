use Rattle.std.proofs.Common.{◌≡◌, ◌||◌, List, false, pos, refl, subst, sym}
use Rattle.std.proofs.lemmas.Slice.Eq.{bytes_eq-Decides}
use Rattle.xl_matrix.specs.declared.claim.CacheKind.{CacheKind}
use Rattle.xl_names.specs.declared.name.Name.TheVariants.{NlmParty, NlmRange}
use Rattle.xl_core.specs.Askers.{IsFitWish}
use Rattle.xl_core.specs.declared.ask.Who.TheVariants.{Named}
use Rattle.xl_tests_core.proofs.calls.asks.act_by.Goals as goal

pub returns : goal.returns
returns c = record {
  act = c.requires.act (Named (NlmRange c.args.caller (pos 1) c.new.result));
  own = c.requires.own (Named (NlmRange c.args.caller (pos 1) c.new.result)) refl;
  party = (bytes_eq-Decides c.args.caller c.args.same).1 c.requires.caller;
  wish = subst (λ (kinds : List CacheKind). IsFitWish (Named (NlmParty c.args.same)) (c.args.waits || c.args.waits) false c.args.act kinds) (sym c.new-2.ensures) (c.requires.wish (Named (NlmParty c.args.same)));
}
