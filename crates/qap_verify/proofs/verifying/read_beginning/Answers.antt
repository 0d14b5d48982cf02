use Rattle.std.proofs.Common.{List, ℕ, subst, inl, inr}
use Rattle.std.proofs.lemmas.Result.{err_from_is_err_and}
use Rattle.qap_text.specs.Input.{max_input}
use Rattle.qap_text.specs.InstanceText.{IsInstanceText}
use Rattle.qap_verify.proofs.Streams.{front_unstreamed}
use Rattle.qap_verify.proofs.verifying.read_beginning.Goals as goal

pub returns-in_err-front : goal.returns-in_err-front
returns-in_err-front g c =
    let p = err_from_is_err_and c.from_residual-in_err-front.result c.from_residual-in_err-front.ensures.1 in
    rw p.1 (inr (inl (record {
      fault = c.in_err-front.field-0.0;
      is = p.2;
      problem = c.in_ok-instance.instance;
      rest = c.in_ok-instance.field-0-1.now;
      instance_read = record {
        text = c.in_ok-text.text.items;
        read = c.in_ok-text.ensures;
        instance_text = subst (λ (t : List ℕ). IsInstanceText t c.in_ok-instance.instance c.in_ok-instance.field-0-1.now) c.deref.ensures.value c.in_ok-instance.ensures;
      };
      read = c.in_err-front.ensures {u = tt} max_input;
      unstreamed = front_unstreamed g.S.Read.remaining c.args.proof.now c.read_front.new.reader c.in_err-front.field-0.0 (c.in_err-front.ensures {u = tt});
    })))

pub returns : goal.returns
returns g c = record {
  rest = c.in_ok-instance.field-0-1.now;
  instance_read = record {
    text = c.in_ok-text.text.items;
    read = c.in_ok-text.ensures;
    instance_text = subst (λ (t : List ℕ). IsInstanceText t c.in_ok-instance.instance c.in_ok-instance.field-0-1.now) c.deref.ensures.value c.in_ok-instance.ensures;
  };
  front_read = c.in_ok-front.ensures;
}
