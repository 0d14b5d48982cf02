-- One line of the piece after another.
use Rattle.std.proofs.Common.{ℕ, List, [], ◌∷◌, ◌++◌, refl, sym, subst}
use Rattle.std.proofs.lemmas.Result.{err_from_is_err_and}
use Rattle.space_script.specs.Feeding.{Fed, FeedFails, front_of, standing}
use Rattle.space_script.specs.declared.script_error.ScriptError.TheVariants.{OutOfMemory}
use Rattle.space_script.proofs.Feeds.{fails_longer, fed_at_once, fed_fails, fed_none, fed_trans, fed_unended, line_further}
use Rattle.space_script.proofs.feeding.feed.Goals as goal

pub loop-before-init : goal.loop-before-init
loop-before-init g c = ([], refl, fed_none g.W.Write.contents (standing c.args.session.now c.args.line.now.items c.args.writer.now))

pub returns-in_err-end_line : goal.returns-in_err-end_line
returns-in_err-end_line g c =
    let p = err_from_is_err_and c.from_residual.result c.from_residual.ensures.1 in
    let stood = c.loop-before.invariant in
    let before = c.in-Some.field-0.before.now in
    let behind = c.in-Some.field-0.behind.now in
    let old = standing c.args.session.now c.args.line.now.items c.args.writer.now in
    let writer = c.end_line.new.writer in
    let error = c.in_err-end_line.field-0.0 in
    let is = line_further c.args.piece.now stood.0 c.loop-before.rest.now before behind stood.1 c.in-Some.ensures.is in
    let fails = fed_fails g.W.Write.contents old (standing c.loop-before.session c.loop-before.line.items c.loop-before.writer) stood.0 (before ++ 10 ∷ []) writer error stood.2 c.in_err-end_line.ensures in
    rw (p.1, p.2) (subst (λ (l : List ℕ). FeedFails g.W.Write.contents old l writer error) (sym is) (fails_longer g.W.Write.contents old (stood.0 ++ (before ++ 10 ∷ [])) behind writer error fails))

pub loop-before-preserved : goal.loop-before-preserved
loop-before-preserved g c =
    let stood = c.loop-before.invariant in
    let before = c.in-Some.field-0.before.now in
    let behind = c.in-Some.field-0.behind.now in
    let old = standing c.args.session.now c.args.line.now.items c.args.writer.now in
    let middle = standing c.loop-before.session c.loop-before.line.items c.loop-before.writer in (
      stood.0 ++ (before ++ 10 ∷ []),
      line_further c.args.piece.now stood.0 c.loop-before.rest.now before behind stood.1 c.in-Some.ensures.is,
      fed_trans g.W.Write.contents old middle (standing c.end_line.new.session c.end_line.new.line.items c.end_line.new.writer) stood.0 (before ++ 10 ∷ []) stood.2 c.in_ok-end_line.ensures,
    )

pub returns-in_err-keep : goal.returns-in_err-keep
returns-in_err-keep g c =
    let p = err_from_is_err_and c.from_residual-in_err-keep.result c.from_residual-in_err-keep.ensures.1 in
    let stood = c.loop-before.invariant in
    let old = standing c.args.session.now c.args.line.now.items c.args.writer.now in
    let middle = standing c.loop-before.session c.loop-before.line.items c.loop-before.writer in
    let rest = c.loop-before.rest.now in
    let writer = c.loop-before.writer in
    let fails = fed_fails g.W.Write.contents old middle stood.0 rest writer OutOfMemory stood.2 (fed_at_once g.W.Write.contents middle rest) in
    rw (p.1, p.2) (subst (λ (l : List ℕ). FeedFails g.W.Write.contents old l writer OutOfMemory) (sym stood.1) fails)

pub returns : goal.returns
returns g c =
    let stood = c.loop-before.invariant in
    let old = standing c.args.session.now c.args.line.now.items c.args.writer.now in
    let middle = standing c.loop-before.session c.loop-before.line.items c.loop-before.writer in
    let rest = c.loop-before.rest.now in
    let kept = c.loop-before.line.items ++ rest in
    let fed = fed_trans g.W.Write.contents old middle (standing middle.session (front_of kept) middle.writer) stood.0 rest stood.2 (fed_unended g.W.Write.contents middle rest c.in_default.ensures) in
    rw c.in_ok-keep.ensures (subst (λ (l : List ℕ). Fed g.W.Write.contents old l (standing middle.session (front_of kept) middle.writer)) (sym stood.1) fed)
