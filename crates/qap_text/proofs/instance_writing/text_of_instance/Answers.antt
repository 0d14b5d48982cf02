use Rattle.std.proofs.Common.{◌≡◌, ◌++◌, List, [], ◌∷◌, ℕ, length, pos, refl, rules, subst, sym}
use Rattle.std.proofs.lemmas.List.{drop_at}
use Rattle.qap_text.specs.InstanceText.{IsInstanceText}
use Rattle.qap_text.proofs.Growing.{spells_grow}
use Rattle.qap_text.proofs.instance_writing.text_of_instance.Goals as goal

pub returns : goal.returns
returns c =
    let I = c.args.instance.now in
    let text = c.push_distances.new.text.items in
    let made : c.push.new.self.items ≡ text ++ 10 ∷ [] = search rules in
    let whole : IsInstanceText (text ++ 10 ∷ []) I (10 ∷ []) = record {
      instance = c.size.ensures.instance;
      stop = length text;
      spelled = spells_grow text (10 ∷ []) 0 (pos I.size ∷ I.a ++ I.b) (length text) refl c.in_ok-push_distances.ensures;
      follows = sym (drop_at text (10 ∷ []) (length text) refl);
    } in
    subst (λ (bs : List ℕ). IsInstanceText bs I (10 ∷ [])) (sym made) whole
