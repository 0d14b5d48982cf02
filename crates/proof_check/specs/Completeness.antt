-- What a check may find where it is known how a text begins: a text with the right grammar has no fault of grammar, and one of a valid
-- proof has none of content.
use Rattle.std.specs.Prelude.{◌≡◌, ◌≢◌, ℕ, ◌+◌, ◌-◌, ◌*◌, ◌≤◌, ◌<◌, All, ◌++◌, ◌∷◌, [], List, length, slice_index, ℤ, codes, Bool, true, false, Option, None, Some, Result, MatchResult}
use Rattle.std.specs.Io.KnownBytes.{IsAtEnd}
use Rattle.qap_cost.specs.Bijection.{IsPerm}
use Rattle.qap_cost.specs.Instance.{Problem}
use Rattle.qap_cost.specs.Placement.{Placement}
use Rattle.qap_cost.specs.Range.{IsLimited}
use Rattle.qap_lines.specs.Bound.{IsBoundFor}
use Rattle.qap_lines.specs.Line.{IsLine}
use Rattle.qap_lines.specs.LineText.{line_text, numbers_text}
use Rattle.qap_proof.specs.Cell.{IsPlaceOf, own_on}
use Rattle.qap_proof.specs.Claim.{IsRoot}
use Rattle.qap_proof.specs.Shape.{IsPermOf}
use Rattle.qap_proof.specs.Text.{root_text, bound_text}
use Rattle.qap_proof.specs.declared.error.ProofError.{ProofError}
use Rattle.qap_proof.specs.declared.error.ProofError.TheVariants.{OutOfMemory}
use Rattle.qap_proof.specs.declared.side.Side.{Side}
use Rattle.proof_tree.specs.Shape.{AreLimited, HasShape, AllHaveShape, IsImageOf}
use Rattle.proof_tree.specs.Text.{image_text, rows_text, split_text, tree_text, children_text, marks}
use Rattle.proof_tree.specs.Tree.{PairRows, Image, by_one, by_both, Tree, Children}
use Rattle.proof_tree.specs.Valid.{Under, Valid, AllValid}
use Rattle.proof_check.specs.Acceptance.{IsInterruption, pair_head_text}
use Rattle.proof_check.specs.Fault.{IsReadFault, content, kind_of}
use Rattle.proof_check.specs.Flow.{Flow, Passes}
use Rattle.proof_check.specs.Lines.{AreMarks}
use Rattle.proof_check.specs.Walk.{is_there, own_of}

-- the known bytes begin with this line, and this follows
pub record BeginsWithLine (old : Option (List ℕ)) (line rest : List ℕ) : Type 0 where
  pub text : List ℕ
  pub known : old ≡ Some text
  pub first : IsLine text line rest

-- this line, which was read, and the known bytes after it are the text
pub record IsCurrent (line : List ℕ) (old : Option (List ℕ)) (text : List ℕ) : Type 0 where
  pub unread : List ℕ
  pub known : old ≡ Some unread
  pub first : IsLine text line unread

-- a call that is Ok leaves the rest of what had this property; one that fails has found no fault of content, and on what had the property
-- it was interrupted
abbrev pub Leaves : {T : Type 0} → (List ℕ → Type 0) → Option (List ℕ) → Result T ProofError → Type 0
Leaves P new r = MatchResult r (λ _. (rest : List ℕ) → P rest → new ≡ Some rest) (λ e. IsReadFault e × ((rest : List ℕ) → P rest → IsInterruption e))

-- a fault of content was found: what was read has the grammar, but what begins so that it is proved does not have the fault
pub record Finds (Skimmed : Type 0) (Proved : List ℕ → Type 0) (e : ProofError) : Type 0 where
  pub kind : kind_of e ≡ content
  pub skimmed : Skimmed
  pub refused : (rest : List ℕ) → Proved rest → ⊥

-- ---- lines

-- a failure to read the line that the known bytes begin with is an interruption
abbrev pub RefusesLine : Option (List ℕ) → ProofError → Type 0
RefusesLine old e = (line rest : List ℕ) → BeginsWithLine old line rest → IsInterruption e

-- likewise where they begin with a line of this name and these numbers
abbrev pub RefusesNamed : List ℕ → List ℤ → Option (List ℕ) → ProofError → Type 0
RefusesNamed name zs old e = (rest : List ℕ) → old ≡ Some (line_text name zs ++ rest) → IsInterruption e

-- a line that is refused has no m limited numbers behind this name, or memory ran out
abbrev pub RefusesNumbers : ℕ → List ℕ → List ℕ → ProofError → Type 0
RefusesNumbers m name line e = (u : List ℤ) → AreLimited m u → line ≡ name ++ numbers_text u → e ≡ OutOfMemory

-- likewise for the line of a split of a node of an instance of size n with m facilities free
abbrev pub RefusesSplit : ℕ → ℕ → Side → List ℕ → ProofError → Type 0
RefusesSplit m n side line e =
    (number : ℕ) (marked : List ℕ) (u : List ℤ) → number < n → length marked ≡ m → AreMarks marked → AreLimited m u → line ++ 10 ∷ [] ≡ split_text side number marked u → IsInterruption e

-- likewise for that of a leaf or a split
pub record RefusesNode (m n : ℕ) (line : List ℕ) (e : ProofError) : Type 0 where
  pub leaf : RefusesNumbers m (codes "x") line e
  pub split : (side : Side) → RefusesSplit m n side line e

-- likewise for that of a symmetric image of one of this many earlier children, for an instance of size n
abbrev pub RefusesImage : ℕ → ℕ → List ℕ → ProofError → Type 0
RefusesImage n earlier line e = (m : Image) → line ++ 10 ∷ [] ≡ image_text m → IsImageOf n earlier m → IsInterruption e

-- likewise where the image is by one permutation
abbrev pub RefusesImageByOne : ℕ → ℕ → List ℕ → ProofError → Type 0
RefusesImageByOne n earlier line e = (j : ℕ) (p : List ℕ) → line ++ 10 ∷ [] ≡ image_text (by_one j p) → j < earlier → IsPermOf n p → IsInterruption e

-- likewise where it is by two
abbrev pub RefusesImageByBoth : ℕ → ℕ → List ℕ → ProofError → Type 0
RefusesImageByBoth n earlier line e =
    (j : ℕ) (p q : List ℕ) → line ++ 10 ∷ [] ≡ image_text (by_both j p q) → IsImageOf n earlier (by_both j p q) → IsInterruption e

-- no blank from the third byte on
pub record HasNoBlank (line : List ℕ) : Type 0 where
  pub each : (i : ℕ) → 2 ≤ i → i < length line → slice_index line i ≢ 32

-- the known bytes begin with these rows of pair duals, with m facilities free
pub record BeginsWithRows (m : ℕ) (rows : List (List ℤ)) (old : Option (List ℕ)) (rest : List ℕ) : Type 0 where
  pub count : length rows ≡ m * m
  pub each : All (AreLimited (2 * (m - 1))) rows
  pub known : old ≡ Some (rows_text rows ++ rest)

-- ---- what is before the tree

-- a text that has a line, whose first byte is not this one
pub record BeginsUnlike (byte : ℕ) (text : List ℕ) : Type 0 where
  pub line : List ℕ
  pub rest : List ℕ
  pub first : IsLine text line rest
  pub other : slice_index text 0 ≢ byte

-- the current line and the bytes after it are those of a root of size n, and then this text, which is not one of a root
pub record HasRoot (n : ℕ) (x : Placement) (line : List ℕ) (old : Option (List ℕ)) (text : List ℕ) : Type 0 where
  pub root : IsRoot n x
  pub current : IsCurrent line old (root_text x.facilities x.places ++ text)
  pub next : BeginsUnlike 110 text

-- the current line and the bytes after it are those of a bound for a cost, and then this text, which is not one of a bound
pub record HasBound (c g : ℤ) (line : List ℕ) (old : Option (List ℕ)) (text : List ℕ) : Type 0 where
  pub bound : IsBoundFor c g
  pub current : IsCurrent line old (bound_text c g ++ text)
  pub next : BeginsUnlike 98 text

-- the known bytes begin with the lines before a tree, and then the tree
pub record HasHead (x : Placement) (c g : ℤ) (p : List ℕ) (t : Tree) (old : Option (List ℕ)) (rest : List ℕ) : Type 0 where
  pub cost : IsLimited c
  pub bound : IsBoundFor c g
  pub permutation : IsPerm p
  pub root : IsRoot (length p) x
  pub tree : HasShape x false t
  pub known : old ≡ Some (pair_head_text x c g p ++ (tree_text t ++ rest))

-- what was read is the root, the cost, the bound and the permutation
pub record IsHeadOf (x : Placement) (c g : ℤ) (p : List ℕ) (root : Placement) (cost bound : ℤ) (perm : List ℕ) : Type 0 where
  pub root_is : root ≡ x
  pub cost_is : cost ≡ c
  pub bound_is : bound ≡ g
  pub perm_is : perm ≡ p

-- the last line was read, and nothing follows it
abbrev pub EndsWith : Flow → Flow → Type 0
EndsWith old new = (last : Flow) × Passes old last (codes "end\n") × IsAtEnd last.left × Passes last new []

-- ---- trees

-- no condition
abbrev pub Any : {T : Type 0} → T → Type 0
Any x = Unit {0}

-- the current line and the bytes after it begin with the text of a tree at y that has a property, where pair duals come from above or not
pub record BeginsTree (y : Placement) (above : Bool) (P : Tree → Type 0) (line : List ℕ) (old : Option (List ℕ)) (rest : List ℕ) : Type 0 where
  pub tree : Tree
  pub current : IsCurrent line old (tree_text tree ++ rest)
  pub shape : HasShape y above tree
  pub holds : P tree

-- likewise, and the tree has its own pair duals
pub record BeginsOwn (y : Placement) (P : Tree → Type 0) (line : List ℕ) (old : Option (List ℕ)) (rest : List ℕ) : Type 0 where
  pub above : Bool
  pub has : BeginsTree y above P line old rest
  pub rows : PairRows
  pub own : own_of has.tree ≡ Some rows

-- likewise, and it has none, but inherits some
pub record BeginsLined (y : Placement) (P : Tree → Type 0) (line : List ℕ) (old : Option (List ℕ)) (rest : List ℕ) : Type 0 where
  pub has : BeginsTree y true P line old rest
  pub bare : own_of has.tree ≡ None

-- the known bytes begin with the text of the children of a split of y from number c on, which have these marks and a property
pub record BeginsChildren (y : Placement) (side : Side) (own c : ℕ) (P : Children → Type 0) (marked : List ℕ) (old : Option (List ℕ)) (rest : List ℕ) : Type 0 where
  pub children : Children
  pub known : old ≡ Some (children_text children ++ rest)
  pub marks_are : marks children ≡ marked
  pub shapes : AllHaveShape y side own c children
  pub holds : P children

-- likewise for all children of a split on this facility or location, where the property depends on its index among the free ones
pub record BeginsSplit (y : Placement) (side : Side) (number : ℕ) (P : ℕ → Children → Type 0) (marked : List ℕ) (old : Option (List ℕ)) (rest : List ℕ) : Type 0 where
  pub own : ℕ
  pub place : IsPlaceOf (own_on side y) number own
  pub below : BeginsChildren y side own 0 (P own) marked old rest

-- ---- valid trees

-- the current line and the bytes after it begin with the text of a tree that is valid at y
abbrev pub HasTree : Problem → ℕ → ℤ → Placement → Option Under → List ℕ → Option (List ℕ) → List ℕ → Type 0
HasTree I step bound y above = BeginsTree y (is_there above) (Valid I step bound y above)

-- likewise, and the tree has its own pair duals
abbrev pub HasOwn : Problem → ℕ → ℤ → Placement → Option Under → List ℕ → Option (List ℕ) → List ℕ → Type 0
HasOwn I step bound y above = BeginsOwn y (Valid I step bound y above)

-- likewise, and it has none, but inherits these
abbrev pub HasLined : Problem → ℕ → ℤ → Placement → Under → List ℕ → Option (List ℕ) → List ℕ → Type 0
HasLined I step bound y now = BeginsLined y (Valid I step bound y (Some now))

-- the known bytes begin with the text of the children of a split of y from number c on, which have these marks and are valid
abbrev pub HasChildren : Problem → ℕ → ℤ → Placement → Under → Side → ℕ → ℕ → List ℕ → Option (List ℕ) → List ℕ → Type 0
HasChildren I step bound y now side own c = BeginsChildren y side own c (AllValid I step bound y now side own c)

-- likewise for all children of a split on this facility or location
abbrev pub HasSplit : Problem → ℕ → ℤ → Placement → Under → Side → ℕ → List ℕ → Option (List ℕ) → List ℕ → Type 0
HasSplit I step bound y now side number = BeginsSplit y side number (λ own. AllValid I step bound y now side own 0)

-- likewise for children from number c on, of which the first has this mark
abbrev pub HasOthers : Problem → ℕ → ℤ → Placement → Under → Side → ℕ → ℕ → ℕ → Option (List ℕ) → List ℕ → Type 0
HasOthers I step bound y now side own c mark old rest = (more : List ℕ) × HasChildren I step bound y now side own c (mark ∷ more) old rest

-- a child of this number and with this mark, followed by others, was read: the others are left; or the call was interrupted
abbrev pub LeavesOthers : {T : Type 0} → Placement → Side → ℕ → ℕ → ℕ → Option (List ℕ) → Option (List ℕ) → Result T ProofError → Type 0
LeavesOthers y side own c mark old new r =
    MatchResult r (λ _. (more rest : List ℕ) → BeginsChildren y side own c Any (mark ∷ more) old rest → BeginsChildren y side own (c + 1) Any more new rest)
    (λ e. IsReadFault e × ((more rest : List ℕ) → BeginsChildren y side own c Any (mark ∷ more) old rest → IsInterruption e))

-- where such children are valid, the others are left, which are valid
abbrev pub PassesOthers : Problem → ℕ → ℤ → Placement → Under → Side → ℕ → ℕ → ℕ → Option (List ℕ) → Option (List ℕ) → Type 0
PassesOthers I step bound y now side own c mark old new =
    (more rest : List ℕ) → HasChildren I step bound y now side own c (mark ∷ more) old rest → HasChildren I step bound y now side own (c + 1) more new rest
