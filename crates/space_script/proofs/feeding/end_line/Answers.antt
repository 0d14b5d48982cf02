-- One line ends.
use Rattle.std.proofs.Common.{ℕ, List, [], ◌++◌, refl, sym, subst, ◌∙◌}
use Rattle.std.proofs.KnownBytes.{Appends-nil}
use Rattle.std.proofs.lemmas.Result.{err_from_is_err_and}
use Rattle.space_script.specs.Feeding.{front_of}
use Rattle.space_script.specs.Run.{Answers}
use Rattle.space_script.proofs.Feeds.{carries_end, stops_at_once, stops_inside_at_once}
use Rattle.space_script.proofs.feeding.end_line.Goals as goal

pub returns-in_err-keep : goal.returns-in_err-keep
returns-in_err-keep g c =
    let p = err_from_is_err_and c.from_residual.result c.from_residual.ensures.1 in
    rw (p.1, p.2) (record {
      replies = [];
      gone_out = Appends-nil _;
      written = refl;
      stops = λ line unfinished. stops_at_once line _ _;
    })

pub returns-in_err-reply : goal.returns-in_err-reply
returns-in_err-reply g c =
    let p = err_from_is_err_and c.from_residual-in_err-reply.result c.from_residual-in_err-reply.ensures.1 in
    rw (p.1, p.2) (record {
      replies = [];
      gone_out = Appends-nil _;
      written = refl;
      stops = λ line unfinished. stops_at_once line _ _;
    })

pub returns-in_err-put : goal.returns-in_err-put
returns-in_err-put g c =
    let p = err_from_is_err_and c.from_residual-in_err-put.result c.from_residual-in_err-put.ensures.1 in
    let reply = c.in_ok-reply.reply.items in
    let put = c.in_err-put.ensures in
    let whole = c.deref.ensures.value ∙ c.in_ok-keep.ensures in
    let answer = subst (λ (l : List ℕ). Answers c.args.session.now l reply c.answer.new.session) whole c.in_ok-reply.ensures in
    let out = put.beginning in
    rw (p.1, p.2) (record {
      replies = [];
      reply = c.deref-2.result.now;
      count = out.0;
      gone_out = out.1;
      failed = put.failed;
      stops = λ line unfinished.
          stops_inside_at_once line c.args.line.now.items c.args.end.now c.deref-2.result.now c.args.session.now c.answer.new.session unfinished c.requires
          (subst (λ (r : List ℕ). Answers c.args.session.now (front_of (c.args.line.now.items ++ c.args.end.now)) r c.answer.new.session) (sym c.deref-2.ensures.value) answer);
    })

pub returns : goal.returns
returns g c =
    let reply = c.in_ok-reply.reply.items in
    let put = c.in_ok-put.ensures in
    let whole = c.deref.ensures.value ∙ c.in_ok-keep.ensures in
    let answer = subst (λ (l : List ℕ). Answers c.args.session.now l reply c.answer.new.session) whole c.in_ok-reply.ensures in
    rw c.clear.ensures.items (record {
      replies = c.deref-2.result.now;
      gone_out = put.whole;
      written = put.count;
      carries = λ line unfinished.
          carries_end line c.args.line.now.items c.args.end.now c.deref-2.result.now c.args.session.now c.answer.new.session unfinished c.requires
          (subst (λ (r : List ℕ). Answers c.args.session.now (front_of (c.args.line.now.items ++ c.args.end.now)) r c.answer.new.session) (sym c.deref-2.ensures.value) answer);
    })
