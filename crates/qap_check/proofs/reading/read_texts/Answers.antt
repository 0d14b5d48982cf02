use Rattle.std.proofs.Common.{◌≡◌, ◌-◌, List, ℕ, length, drop, ap, subst, ◌∙◌, inl, inr, arith}
use Rattle.std.proofs.lemmas.Result.{err_from_is_err_and}
use Rattle.qap_text.specs.InstanceText.{IsInstanceText}
use Rattle.qap_check.specs.Source.{IsOtherText, between}
use Rattle.qap_check.proofs.Behind.{behind_ends, EndsWith-length, EndsWith-drop}
use Rattle.qap_check.proofs.reading.read_texts.Goals as goal

pub overflow_sub-start : goal.overflow_sub-start
overflow_sub-start g c =
    let text = c.in_ok-text.text.items in
    let rest = c.in_ok-instance.rest.now in
    let follows = c.in_ok-instance.ensures.follows ∙ ap (drop c.in_ok-instance.ensures.stop) c.deref.ensures.value in
    let ends = behind_ends c.args.separators text rest _ c.in_ok-instance.ensures.stop follows c.behind_instance.ensures in
    omega (arith, EndsWith-length text c.behind_instance.result.now ends, c.len.ensures)

pub returns-in_err-other : goal.returns-in_err-other
returns-in_err-other g c =
    let p = err_from_is_err_and c.from_residual-in_err-other.result c.from_residual-in_err-other.ensures.1 in
    let fault = c.in_err-other.ensures {u = tt} in
    rw (p.1, p.2) (inr (inl (record {
      fault = fault.0;
      is = fault.1;
      instance = c.in_ok-instance.instance;
      rest = c.in_ok-instance.rest.now;
      first = record {
        text = c.in_ok-text.text.items;
        read = c.in_ok-text.ensures;
        instance_text = subst (λ (t : List ℕ). IsInstanceText t c.in_ok-instance.instance c.in_ok-instance.rest.now) c.deref.ensures.value c.in_ok-instance.ensures;
      };
      read = fault.2;
    })))

pub returns : goal.returns
returns g c =
    let text = c.in_ok-text.text.items in
    let rest = c.in_ok-instance.rest.now in
    let behind = c.behind_instance.result.now in
    let follows = c.in_ok-instance.ensures.follows ∙ ap (drop c.in_ok-instance.ensures.stop) c.deref.ensures.value in
    let ends = behind_ends c.args.separators text rest behind c.in_ok-instance.ensures.stop follows c.behind_instance.ensures in
    let size : c.len.result ≡ length text = omega (arith, c.len.ensures) in
    let start = ap (λ n. drop (n - length behind) text) size in
    let is : c.behind.result ≡ between c.args.separators rest = cc (c.behind.ensures, start, EndsWith-drop text behind ends, c.behind_instance.ensures) in
    record {
      rest = rest;
      first = record {
        text = text;
        read = c.in_ok-text.ensures;
        instance_text = subst (λ (t : List ℕ). IsInstanceText t c.in_ok-instance.instance rest) c.deref.ensures.value c.in_ok-instance.ensures;
      };
      second = subst (λ (b : List ℕ). IsOtherText g.S.Read.remaining c.args.second.now c.read_other.new.second b c.in_ok-other.other) is c.in_ok-other.ensures;
    }
