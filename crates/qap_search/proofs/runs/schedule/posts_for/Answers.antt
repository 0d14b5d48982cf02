use Rattle.std.proofs.Common.{◌≡◌, ◌+◌, ◌++◌, ◌∷◌, [], ap, sym, ◌∙◌, arith, replicate}
use Rattle.std.specs.Prelude.{ℕ, List, vec_len}
use Rattle.std.proofs.lemmas.List.{replicate-append-replicate}
use Rattle.qap_search.specs.Runs.Interleaving.{PostValue}
use Rattle.qap_search.proofs.RunLemmas.Fronts.{All-front}
use Rattle.qap_search.proofs.runs.schedule.posts_for.Goals as goal

-- one place more, where a worker stands who has done nothing yet
posts-more : (xs ys : List PostValue) (p one : PostValue) (n m : ℕ) → ys ≡ xs ++ p ∷ [] → p ≡ one → xs ≡ replicate n one → m ≡ n + 1 → ys ≡ replicate m one
posts-more xs ys p one n m is same all count =
    is ∙ ap (λ (q : PostValue). xs ++ q ∷ []) same ∙ ap (λ (zs : List PostValue). zs ++ one ∷ []) all ∙ replicate-append-replicate n 1 one
    ∙ ap (λ (k : ℕ). replicate k one) (sym count)

pub loop-share-preserved : goal.loop-share-preserved
loop-share-preserved g c =
    let count : vec_len c.push.new.self ≡ vec_len c.loop-share.posts + 1 = c.in_ok-push.ensures.len in
    record {
      posts = posts-more c.loop-share.posts.items c.push.new.self.items c.in_ok-new.field-0 _ (vec_len c.loop-share.posts) _ c.in_ok-push.ensures.items c.in_ok-new.ensures c.loop-share.invariant.posts count;
      count = (let a = c.loop-share.invariant.count in let b = c.in-Some.ensures.len in omega arith);
      fresh = All-front (λ (n : ℕ). n ≡ 0) c.pop.new.self.items c.loop-share.rest.items c.in-Some.share c.in-Some.ensures.items c.loop-share.invariant.fresh;
      worker = omega (arith, c.loop-share.invariant.worker, count);
    }
