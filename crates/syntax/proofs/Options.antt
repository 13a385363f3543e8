-- What an Option holds is one value, or none. Assumes nothing.
use Rattle.std.proofs.Common.{◌≡◌, Some, None, Option}

pub some_same : {A : Type 0} {x y : A} → Some x ≡ Some y → x ≡ y
some_same e = cc

pub none_some : {A B : Type 0} {x : A} → ◌≡◌ {A = Option A} None (Some x) → B
none_some e = absurd cc
