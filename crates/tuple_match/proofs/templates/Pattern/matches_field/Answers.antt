use Rattle.tuple_match.proofs.templates.Pattern.matches_field.Goals as goal

pub returns-in-Is-default : goal.returns-in-Is-default
returns-in-Is-default c = rw c.in-Is-default.is-0 c.eq.ensures.same
