use Rattle.proof_check.proofs.ReadLines.{ends_otherwise}
use Rattle.proof_check.proofs.cursor.read_line.Goals as goal

pub returns-in_default-pop-clause-refused : goal.returns-in_default-pop-clause-refused
returns-in_default-pop-clause-refused g c = λ line rest begins.
    absurd (c.in_default-pop.field-0-test.1 (ends_otherwise _ c.args.line.now.items c.read_line.new.line.items c.pop.new.self.items line rest _ begins c.requires c.in_default.ensures.bytes c.in_default-pop.ensures.items))
