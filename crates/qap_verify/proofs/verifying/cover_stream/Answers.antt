use Rattle.std.proofs.Common.{◌≡◌, ◌⊎◌, List, ℕ, ap, sym, ◌∙◌, inl, inr, ⊎_elim, subst}
use Rattle.std.specs.Prelude.{MatchResult}
use Rattle.std.specs.Io.KnownBytes.{prepend_known}
use Rattle.std.proofs.lemmas.Bool.{false≢true}
use Rattle.std.proofs.lemmas.Result.{err_from_is_err_and}
use Rattle.qap_proof.specs.declared.error.ProofError.TheVariants.{OutOfMemory as ProofMemory}
use Rattle.qap_text.specs.Input.{input_of}
use Rattle.proof_versions.specs.Streams.{StreamOpens}
use Rattle.proof_versions.specs.Versions.{EitherIsRefused, StatesVersionTwo}
use Rattle.proof_versions.specs.Opening.{EitherOpens}
use Rattle.qap_verify.specs.Refusal.{RefusesStream, of_proof}
use Rattle.qap_verify.proofs.Comes.{wants_memory}
use Rattle.qap_verify.proofs.Streams.{opened_holds, texts_of, unread_of, yields_of}
use Rattle.qap_verify.proofs.verifying.cover_stream.Goals as goal

pub returns-then-states_version_two : goal.returns-then-states_version_two
returns-then-states_version_two g c =
    let I = c.in_ok-begun.begun.instance in
    let front = c.in_ok-begun.begun.front.items in
    let bytes = g.S.Read.remaining in
    let later = bytes c.read_beginning.new.proof.inner in
    let first = input_of g.R.Read.remaining c.args.instance.now c.read_beginning.new.instance in
    let two : StatesVersionTwo front = subst StatesVersionTwo c.deref.ensures.value (c.states_version_two.ensures.0 c.if-states_version_two.true) in
    let known = subst (λ (t : List ℕ). MatchResult c.opened.result (StreamOpens I (prepend_known t later)) (RefusesStream I (prepend_known t later))) c.deref-then-states_version_two.ensures.value c.opened.ensures in
    yields_of EitherOpens first bytes c.args.proof.now c.read_beginning.new.proof c.opened.new.proof I front c.opened.result c.in_ok-begun.ensures two (opened_holds I (prepend_known front later) c.opened.result known)

pub returns-in_err-text : goal.returns-in_err-text
returns-in_err-text g c =
    let p = err_from_is_err_and c.from_residual-in_err-text.result c.from_residual-in_err-text.ensures.1 in
    let front = c.in_ok-begun.begun.front.items in
    let first = input_of g.R.Read.remaining c.args.instance.now c.read_beginning.new.instance in
    let other : StatesVersionTwo front → ⊥ = λ two. false≢true (sym c.if-states_version_two.false ∙ c.states_version_two.ensures.1 (subst StatesVersionTwo (sym c.deref.ensures.value) two)) in
    rw p.1 (inl (unread_of first g.S.Read.remaining c.args.proof.now c.read_beginning.new.proof c.read_behind.new.reader c.in_ok-begun.begun.instance front c.in_err-text.field-0.0 p.0 c.in_ok-begun.ensures other (c.in_err-text.ensures {u = tt}) p.2))

pub returns-in_err-open_cover : goal.returns-in_err-open_cover
returns-in_err-open_cover g c =
    let p = err_from_is_err_and c.from_residual-in_err-open_cover.result c.from_residual-in_err-open_cover.ensures.1 in
    let I = c.in_ok-begun.begun.instance in
    let text = c.in_ok-text.text.items in
    let fault = c.in_err-open_cover.field-0.0 in
    let first = input_of g.R.Read.remaining c.args.instance.now c.read_beginning.new.instance in
    let texts = texts_of first g.S.Read.remaining c.args.proof.now c.read_beginning.new.proof c.read_behind.new.reader I c.in_ok-begun.begun.front.items text c.in_ok-begun.ensures c.in_ok-text.ensures in
    let refused = subst (λ (t : List ℕ). (fault ≡ ProofMemory) ⊎ EitherIsRefused I t fault) c.as_slice.ensures.value c.in_err-open_cover.ensures in
    rw p.1 (⊎_elim
    (λ memory. inl (wants_memory _ I text p.0 texts (p.2 ∙ ap of_proof memory)))
    (λ fault_is. inr (inl (record { problem = I; text = text; texts = texts; holds = (fault, p.2, fault_is) })))
    refused)

pub returns : goal.returns
returns g c =
    let I = c.in_ok-begun.begun.instance in
    let text = c.in_ok-text.text.items in
    let first = input_of g.R.Read.remaining c.args.instance.now c.read_beginning.new.instance in
    inl (record {
      problem = I;
      text = text;
      texts = texts_of first g.S.Read.remaining c.args.proof.now c.read_beginning.new.proof c.read_behind.new.reader I c.in_ok-begun.begun.front.items text c.in_ok-begun.ensures c.in_ok-text.ensures;
      holds = subst (λ (t : List ℕ). EitherOpens I t c.in_ok-open_cover.field-0) c.as_slice.ensures.value c.in_ok-open_cover.ensures;
    })
