-- An engine's name, a blank and what stands behind it. Assumes nothing.
use Rattle.std.proofs.Common.{◌≡◌, ℕ, zero, suc, Bool, true, false, not, ◌&&◌, eqb, List, [], ◌∷◌, ◌++◌, Ok, Err, Result, sym, refl, ◌∙◌, arith}
use Rattle.std.specs.Result.{is_ok}
use Rattle.std.proofs.lemmas.Bool.{and_parts, not-true, eq-eqb, false≢true}
use Rattle.lines.specs.Lines.{Lacks, Splits}
use Rattle.lines.proofs.Feeds.{parts_are, stands_between}
use Rattle.script.specs.declared.engines.EngineName.{EngineName}
use Rattle.script.specs.declared.engines.EngineName.TheVariants.{Single, Tabled, Word}
use Rattle.script.specs.declared.engines.UnknownEngine.{UnknownEngine}
use Rattle.script.specs.Engines.{name_of, NamesEngine}

abbrev lacks_test : ℕ → List ℕ → Bool
lacks_test b [] = true
lacks_test b (x ∷ xs) = not (eqb x b) && lacks_test b xs

lacks_by : (b : ℕ) (xs : List ℕ) → lacks_test b xs ≡ true → Lacks b xs
lacks_by b [] t i less e = absurd (omega arith)
lacks_by b (x ∷ xs) t zero less e = let (here, rest) = and_parts (not (eqb x b)) (lacks_test b xs) t in absurd (false≢true (sym (not-true (eqb x b) here) ∙ eq-eqb x b e))
lacks_by b (x ∷ xs) t (suc i) less e = let (here, rest) = and_parts (not (eqb x b)) (lacks_test b xs) t in lacks_by b xs rest i (omega arith) e

name_lacks : (e : EngineName) → Lacks 32 (name_of e)
name_lacks Single = lacks_by 32 (name_of Single) refl
name_lacks Tabled = lacks_by 32 (name_of Tabled) refl
name_lacks Word = lacks_by 32 (name_of Word) refl

module _ (rest : List ℕ) (e : EngineName) (digits : List ℕ) (is : rest ≡ name_of e ++ (32 ∷ digits)) where
  pub has_blank : Lacks 32 rest → ⊥
  has_blank lacks = stands_between 32 (name_of e) digits rest is lacks

  pub name_before : {front behind : List ℕ} → Splits 32 rest front behind → front ≡ name_of e
  name_before {front = front} {behind = behind} s = (parts_are 32 front (name_of e) behind digits s.first (name_lacks e) (sym s.whole ∙ is)).0

-- bytes that name no engine
pub names_none : (bytes : List ℕ) (r : Result EngineName UnknownEngine) → NamesEngine bytes r → false ≡ is_ok r → (e : EngineName) → bytes ≡ name_of e → ⊥
names_none bytes (Ok x) named wrong e = absurd (false≢true wrong)
names_none bytes (Err x) named wrong e = named e
