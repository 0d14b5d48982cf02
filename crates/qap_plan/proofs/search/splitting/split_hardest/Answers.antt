use Rattle.std.proofs.Common.{All, ◌≡◌, ◌∙◌, ◌∷◌, List, rules, subst, sym}
use Rattle.std.proofs.lemmas.List.Elements.{All-head}
use Rattle.qap_proof.specs.Missing.{IsMissing}
use Rattle.qap_proof.specs.declared.missing.MissingPart.{MissingPart}
use Rattle.qap_plan.proofs.search.splitting.split_hardest.Goals as goal

pub prove-requires-clause-root : goal.prove-requires-clause-root
prove-requires-clause-root c =
    let s = c.args.skeleton in
    let hardest = c.in-Some.hardest.now in
    let others = c.in-Some.others.now in
    let P : MissingPart → Type 0 = IsMissing c.args.instance.now.size s.proof.cost c.requires.missing.leaves in
    let is : c.deref.result.now ≡ hardest ∷ others = search rules in
    (All-head P hardest others (subst (All P) (sym c.deref.ensures.value ∙ is) c.requires.missing.lists.each)).root

pub returns-clause-skeleton : goal.returns-clause-skeleton
returns-clause-skeleton c =
    let finer = c.in_ok-proof.ensures in
    record {
      shape = finer.grafted.shape;
      proves = finer.proves;
      over = finer.grafted.root ∙ c.requires.over;
      missing = c.in_ok-parts.ensures.missing;
      enough = c.in_ok-parts.ensures.enough;
    }
