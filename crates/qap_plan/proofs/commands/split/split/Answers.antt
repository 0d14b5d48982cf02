use Rattle.std.proofs.Common.{rules, subst}
use Rattle.qap_plan.specs.PartFiles.{TellsParts}
use Rattle.qap_plan.proofs.commands.split.split.Goals as goal

pub returns-in-Ok-split_up : goal.returns-in-Ok-split_up
returns-in-Ok-split_up g c = λ success. record {
  searched = c.in_ok-searched.searched;
  start = c.in_ok-start.start;
  files = c.in-Ok.names;
  read = c.in_ok-searched.ensures.searched;
  begins = c.in_ok-start.ensures.begins;
  named = search rules;
  splits = record {
    skeleton = c.in-Ok-split_up.skeleton;
    split = c.in-Ok-split_up.ensures;
    tells = subst (λ s. TellsParts g.S.Sink.writes g.S.Sink.prints c.args.request.now.estimate c.in-Ok.names c.in-Ok-split_up.skeleton s c.tell_parts.new.sink) c.in_default-open.ensures.opened (c.tell_parts.ensures.told success);
    ends = c.tell_parts.ensures.ends success;
  };
}
