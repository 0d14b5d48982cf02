use Rattle.std.proofs.Common.{◌≡◌, ◌⊎◌, List, ℕ, ap, refl, sym, ◌∙◌, inl, inr, ⊎_elim, subst}
use Rattle.std.specs.Prelude.{MatchResult}
use Rattle.std.specs.Io.KnownBytes.{prepend_known}
use Rattle.std.proofs.lemmas.Bool.{false≢true}
use Rattle.std.proofs.lemmas.Result.{err_from_is_err_and}
use Rattle.qap_proof.specs.declared.error.ProofError.TheVariants.{OutOfMemory as ProofMemory}
use Rattle.qap_text.specs.Input.{max_input}
use Rattle.proof_versions.specs.Adding.{HasEitherPart}
use Rattle.proof_versions.specs.Streams.{StreamAdds}
use Rattle.proof_versions.specs.Versions.{EitherIsRefused, StatesVersionTwo}
use Rattle.qap_verify.specs.Refusal.{RefusesStream, of_proof}
use Rattle.qap_verify.proofs.Streams.{adds_of, front_unstreamed, part_unread, text_of}
use Rattle.qap_verify.proofs.verifying.part_stream.Goals as goal

pub returns-in_err-front : goal.returns-in_err-front
returns-in_err-front g c =
    let p = err_from_is_err_and c.from_residual.result c.from_residual.ensures.1 in
    rw p.1 (
      inl (record {
        fault = c.in_err-front.field-0.0;
        is = p.2;
        read = c.in_err-front.ensures {u = tt} max_input;
        unstreamed = front_unstreamed g.S.Read.remaining c.args.proof.now c.read_front.new.reader c.in_err-front.field-0.0 (c.in_err-front.ensures {u = tt});
      }),
      refl,
    )

pub returns-then-states_version_two : goal.returns-then-states_version_two
returns-then-states_version_two g c =
    let front = c.in_ok-front.front.items in
    let bytes = g.S.Read.remaining in
    let later = bytes c.read_front.new.reader.inner in
    let old = c.args.cover.now in
    let new = c.part_streamed.new.cover in
    let two : StatesVersionTwo front = subst StatesVersionTwo c.deref.ensures.value (c.states_version_two.ensures.0 c.if-states_version_two.true) in
    let known = subst (λ (t : List ℕ). MatchResult c.part_streamed.result (λ done. StreamAdds (prepend_known t later) old new) (λ e. RefusesStream old.instance (prepend_known t later) e × (new ≡ old))) c.deref-then-states_version_two.ensures.value c.part_streamed.ensures in
    adds_of bytes c.args.proof.now c.read_front.new.reader c.part_streamed.new.proof front old new c.part_streamed.result c.in_ok-front.ensures two known

pub returns-in_err-text : goal.returns-in_err-text
returns-in_err-text g c =
    let p = err_from_is_err_and c.from_residual-in_err-text.result c.from_residual-in_err-text.ensures.1 in
    let front = c.in_ok-front.front.items in
    let other : StatesVersionTwo front → ⊥ = λ two. false≢true (sym c.if-states_version_two.false ∙ c.states_version_two.ensures.1 (subst StatesVersionTwo (sym c.deref.ensures.value) two)) in
    rw p.1 (inl (part_unread g.S.Read.remaining c.args.proof.now c.read_front.new.reader c.read_behind.new.reader front c.in_err-text.field-0.0 p.0 c.in_ok-front.ensures other (c.in_err-text.ensures {u = tt}) p.2), refl)

pub returns-in_err-add_part : goal.returns-in_err-add_part
returns-in_err-add_part g c =
    let p = err_from_is_err_and c.from_residual-in_err-add_part.result c.from_residual-in_err-add_part.ensures.1 in
    let I = c.args.cover.now.instance in
    let text = c.in_ok-text.text.items in
    let fault = c.in_err-add_part.field-0.0 in
    let read = text_of g.S.Read.remaining c.args.proof.now c.read_front.new.reader c.read_behind.new.reader c.in_ok-front.front.items text c.in_ok-front.ensures c.in_ok-text.ensures in
    let refused = subst (λ (t : List ℕ). (fault ≡ ProofMemory) ⊎ EitherIsRefused I t fault) c.as_slice.ensures.value (c.in_err-add_part.ensures {u = tt}).0 in
    rw p.1 (
      ⊎_elim
          (λ memory. inr (inr (record { is = p.2 ∙ ap of_proof memory; kept = read.kept })))
          (λ fault_is. inr (inl (record { text = text; read = inl read; fault = fault; is = p.2; refused = fault_is })))
          refused,
      (c.in_err-add_part.ensures {u = tt}).1,
    )

pub returns : goal.returns
returns g c =
    let text = c.in_ok-text.text.items in
    record {
      text = text;
      read = inl (text_of g.S.Read.remaining c.args.proof.now c.read_front.new.reader c.read_behind.new.reader c.in_ok-front.front.items text c.in_ok-front.ensures c.in_ok-text.ensures);
      part = subst (λ (t : List ℕ). HasEitherPart t c.args.cover.now c.add_part.new.cover) c.as_slice.ensures.value c.in_ok-add_part.ensures;
    }
