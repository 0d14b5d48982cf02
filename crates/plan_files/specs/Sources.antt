-- What is read of files. The possible contents of files are a relation of names and bytes.
use Rattle.std.specs.Borrow.{Bor}
use Rattle.std.specs.Prelude.{◌≡◌, ⊤, ℕ, Bool, List, None, Option, Some, IsUtf8}
use Rattle.qap_cost.specs.Instance.{Problem}
use Rattle.qap_text.specs.Input.{Input}
use Rattle.plan_input.specs.declared.loading.Loaded.{Loaded}
use Rattle.plan_files.specs.Reading.{HasOneInstance}

-- bytes are given exactly if a file is named, and then they are what that file has
abbrev pub IsGivenIn : (List ℕ → List ℕ → Type 0) → Option (List ℕ) → Option (List ℕ) → Type 0
IsGivenIn Holds None None = ⊤
IsGivenIn Holds (Some file) (Some bytes) = Holds file bytes
IsGivenIn Holds _ _ = ⊥

-- the text of a file: that of its bytes, which are unchanged if they are UTF-8
pub record IsTextIn (Holds : List ℕ → List ℕ → Type 0) (file text : List ℕ) : Type 0 where
  pub bytes : List ℕ
  pub held : Holds file bytes
  pub decoded : IsUtf8 bytes → text ≡ bytes

-- the instance of a file, which no word follows unless what follows is to be ignored
pub record IsInstanceIn (Holds : List ℕ → List ℕ → Type 0) (file : List ℕ) (passes : Bool) (I : Problem) : Type 0 where
  pub bytes : List ℕ
  pub held : Holds file bytes
  pub input : Input (Bor (List ℕ))
  pub read : HasOneInstance input passes I
  pub of_bytes : input.before.inner.now ≡ bytes

-- a plan has neither costs of places nor forbidden places
pub record IsPlain (l : Loaded) : Type 0 where
  pub charges : l.charges.count ≡ 0
  pub forbidden : l.forbidden.count ≡ 0
