-- Trees that were judged as their lines came: those that are valid, one after another, and the first fault.
use Rattle.std.proofs.Common.{◌≡◌, ℕ, suc, ◌+◌, ◌<◌, ◌≤◌, ◌++◌, ◌∷◌, [], List, length, take, drop, get_or, ℤ, sym, ◌∙◌, ap, subst, inl, inr, arith, take-append-drop}
use Rattle.std.proofs.Math.Seq.{drop-cons}
use Rattle.std.proofs.lemmas.List.{take_more}
use Rattle.qap_cost.specs.Instance.{Problem}
use Rattle.qap_cost.specs.Placement.{Placement, placing}
use Rattle.qap_cert.proofs.Readings.{with_last}
use Rattle.qap_cert.proofs.Trees.{line_after-more, line_after-none}
use Rattle.qap_cert.specs.Code.{joined}
use Rattle.qap_cert.specs.Fault.{IsTreeFault, IsTreeFaultAmong}
use Rattle.qap_lines.specs.Line.{line_after}
use Rattle.qap_cert.specs.Tree.{Node, Nodes, no_nodes, node, node_count, nodes_count}
use Rattle.qap_cert.specs.Valid.{Valid, AllValid}
use Rattle.qap_cert.specs.declared.error.CertError.{CertError}

AllValid-with_last : (I : Problem) (g : ℤ) (x : Placement) (f : ℕ) (ks : List ℕ) (k : ℕ) (ts : Nodes) (t : Node) → AllValid I g x f ks ts → Valid I g (placing x f k) t
    → AllValid I g x f (ks ++ k ∷ []) (with_last ts t)
AllValid-with_last I g x f [] k no_nodes t h valid = (valid, tt)
AllValid-with_last I g x f (j ∷ ks) k no_nodes t h valid = absurd h
AllValid-with_last I g x f [] k (node s rest) t h valid = absurd h
AllValid-with_last I g x f (j ∷ ks) k (node s rest) t h valid = (h.0, AllValid-with_last I g x f ks k rest t h.1 valid)

-- one valid child more
pub AllValid-more : (I : Problem) (g : ℤ) (x : Placement) (f : ℕ) (ks : List ℕ) (i : ℕ) (ts : Nodes) (t : Node) → i < length ks → AllValid I g x f (take i ks) ts
    → Valid I g (placing x f (get_or ks i 0)) t → AllValid I g x f (take (i + 1) ks) (with_last ts t)
AllValid-more I g x f ks i ts t below h valid =
    subst (λ (js : List ℕ). AllValid I g x f js (with_last ts t)) (sym (take_more ks i 0 below)) (AllValid-with_last I g x f (take i ks) (get_or ks i 0) ts t h valid)

fault_behind : (I : Problem) (g : ℤ) (x : Placement) (f : ℕ) (ks ls : List ℕ) (k line at : ℕ) (ts us : Nodes) (t : Node) (e : CertError) → line ≤ 18446744073709551615
    → AllValid I g x f ks ts → at ≡ line_after line (nodes_count ts) → IsTreeFault I g (placing x f k) at t e
    → IsTreeFaultAmong I g x f (ks ++ k ∷ ls) line (joined (with_last ts t) us) e
fault_behind I g x f [] ls k line at no_nodes us t e small h is fault =
    inl (subst (λ (j : ℕ). IsTreeFault I g (placing x f k) j t e) (is ∙ sym (line_after-none line small)) fault)
fault_behind I g x f (j ∷ ks) ls k line at no_nodes us t e small h is fault = absurd h
fault_behind I g x f [] ls k line at (node s rest) us t e small h is fault = absurd h
fault_behind I g x f (j ∷ ks) ls k line at (node s rest) us t e small h is fault =
    inr (h.0, fault_behind I g x f ks ls k (line_after line (node_count s)) at rest us t e (omega arith) h.1 (is ∙ sym (line_after-more line (node_count s) (nodes_count rest))) fault)

-- the fault of one child, behind which there are others
pub IsTreeFaultAmong-at : (I : Problem) (g : ℤ) (x : Placement) (f : ℕ) (ks : List ℕ) (i line at : ℕ) (ts us : Nodes) (t : Node) (e : CertError) → line ≤ 18446744073709551615 → i < length ks
    → AllValid I g x f (take i ks) ts → at ≡ line_after line (nodes_count ts) → IsTreeFault I g (placing x f (get_or ks i 0)) at t e
    → IsTreeFaultAmong I g x f ks line (joined (with_last ts t) us) e
IsTreeFaultAmong-at I g x f ks i line at ts us t e small below h is fault =
    let whole : take i ks ++ get_or ks i 0 ∷ drop (suc i) ks ≡ ks = ap (λ l. take i ks ++ l) (sym (drop-cons ks i 0 below)) ∙ take-append-drop i ks in
    subst (λ (js : List ℕ). IsTreeFaultAmong I g x f js line (joined (with_last ts t) us) e) whole
    (fault_behind I g x f (take i ks) (drop (suc i) ks) (get_or ks i 0) line at ts us t e small h is fault)

-- valid children, and others behind them
pub AllValid-joined : (I : Problem) (g : ℤ) (x : Placement) (f : ℕ) (js ks : List ℕ) (ts us : Nodes) → AllValid I g x f js ts → AllValid I g x f ks us → AllValid I g x f (js ++ ks) (joined ts us)
AllValid-joined I g x f [] ks no_nodes us h k = k
AllValid-joined I g x f (j ∷ js) ks no_nodes us h k = absurd h
AllValid-joined I g x f [] ks (node t rest) us h k = absurd h
AllValid-joined I g x f (j ∷ js) ks (node t rest) us h k = (h.0, AllValid-joined I g x f js ks rest us h.1 k)

-- a fault of others behind valid children
pub IsTreeFaultAmong-joined : (I : Problem) (g : ℤ) (x : Placement) (f : ℕ) (js ks : List ℕ) (line at : ℕ) (ts us : Nodes) (e : CertError) → line ≤ 18446744073709551615
    → AllValid I g x f js ts → at ≡ line_after line (nodes_count ts) → IsTreeFaultAmong I g x f ks at us e → IsTreeFaultAmong I g x f (js ++ ks) line (joined ts us) e
IsTreeFaultAmong-joined I g x f [] ks line at no_nodes us e small h is fault =
    subst (λ (j : ℕ). IsTreeFaultAmong I g x f ks j us e) (is ∙ sym (line_after-none line small)) fault
IsTreeFaultAmong-joined I g x f (j ∷ js) ks line at no_nodes us e small h is fault = absurd h
IsTreeFaultAmong-joined I g x f [] ks line at (node s rest) us e small h is fault = absurd h
IsTreeFaultAmong-joined I g x f (j ∷ js) ks line at (node s rest) us e small h is fault =
    inr (h.0, IsTreeFaultAmong-joined I g x f js ks (line_after line (node_count s)) at rest us e (omega arith) h.1 (is ∙ sym (line_after-more line (node_count s) (nodes_count rest))) fault)
