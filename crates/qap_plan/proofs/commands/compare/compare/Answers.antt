use Rattle.std.proofs.Common.{option_copied, rules, subst}
use Rattle.std.specs.Prelude.{IsTrue}
use Rattle.qap_plan.specs.Comparing.{ComparesFrom}
use Rattle.qap_plan.proofs.commands.compare.compare.Goals as goal

pub returns-in-Ok : goal.returns-in-Ok
returns-in-Ok g c = λ success.
    let plain : IsTrue c.is_plain.result = search rules in
    record {
      loaded = c.in_ok-loaded.loaded;
      listed = c.in_ok-listed.listed.items;
      today = c.in_ok-today.today;
      read = c.in_ok-loaded.ensures.loaded;
      plain = c.is_plain.ensures plain;
      held = c.in_ok-listed.ensures;
      layout = search rules;
      compares = subst (λ s. ComparesFrom g.S.Sink.writes g.S.Sink.prints (option_copied c.args.request.now.csv) c.in_ok-loaded.loaded.problem c.in_ok-today.today c.in-Ok.status s c.compare_and_tell.new.sink)
          c.in_default.ensures.opened (c.in-Ok.ensures success);
    }
