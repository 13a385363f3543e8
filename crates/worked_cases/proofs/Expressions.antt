-- The trees of the worked expressions, and what they mean. Assumes nothing.
use Rattle.std.proofs.Common.{◌≡◌, ℕ, true, false, ◌&&◌, eqb, leb, [], ◌∷◌, refl, ap, ap₂, arith, lit≤}
use mathlib.Core.Path.{fun_ext}
use Rattle.std.proofs.lemmas.Bool.{eqb-true}
use Rattle.regular.specs.Language.{one, join, plus, star}
use Rattle.syntax.specs.declared.mode.Mode.TheVariants.{Bytes, Fields}
use Rattle.syntax.specs.Grammar.{special, digit, plain, pair, single, last, unit, set, Mark, once, any, some_times, Tree, item, only, lone, row, marked, simple}
use Rattle.worked_cases.specs.WorkedCases.{letter, ReadAs, abc, aba, any_a, one_ten}

-- a set of one code that the mode has
one_code : (top a : ℕ) → leb a top ≡ true → one (λ c. leb c top && eqb a c) ≡ letter a
one_code top a l = ap one (fun_ext (λ c. grind (arith, eqb-true)))

-- a plain byte, and two digits in brackets, with a mark
byte : (a : ℕ) → special a ≡ false → Mark → Tree Bytes item
byte a p k = marked (simple (unit tt (plain a p))) k

field : (a b : ℕ) → digit a ≡ true → digit b ≡ true → Tree Fields item
field a b p q = marked (simple (set false (last (single (pair a b p q))))) once

pub abc_read : ReadAs Bytes (97 ∷ 98 ∷ 43 ∷ 99 ∷ []) abc
unfolding byte
abc_read = record {
  tree = only (row (row (lone (byte 97 refl once)) (byte 98 refl some_times)) (byte 99 refl once));
  is_written = record { short = lit≤ tt; as_bytes = refl };
  breaks_no_limit = refl;
  means_it = ap₂ join (ap₂ join (one_code _ _ refl) (ap plus (one_code _ _ refl))) (one_code _ _ refl);
}

pub aba_read : ReadAs Bytes (97 ∷ 98 ∷ 97 ∷ []) aba
unfolding byte
aba_read = record {
  tree = only (row (row (lone (byte 97 refl once)) (byte 98 refl once)) (byte 97 refl once));
  is_written = record { short = lit≤ tt; as_bytes = refl };
  breaks_no_limit = refl;
  means_it = ap₂ join (ap₂ join (one_code _ _ refl) (one_code _ _ refl)) (one_code _ _ refl);
}

pub any_a_read : ReadAs Bytes (97 ∷ 42 ∷ []) any_a
unfolding byte
any_a_read = record {
  tree = only (lone (byte 97 refl any));
  is_written = record { short = lit≤ tt; as_bytes = refl };
  breaks_no_limit = refl;
  means_it = ap star (one_code _ _ refl);
}

pub one_ten_read : ReadAs Fields (60 ∷ 48 ∷ 49 ∷ 62 ∷ 60 ∷ 49 ∷ 48 ∷ 62 ∷ []) one_ten
unfolding field
one_ten_read = record {
  tree = only (row (lone (field 48 49 refl refl)) (field 49 48 refl refl));
  is_written = record { short = lit≤ tt; as_bytes = refl };
  breaks_no_limit = refl;
  means_it = ap₂ join (one_code _ _ refl) (one_code _ _ refl);
}
