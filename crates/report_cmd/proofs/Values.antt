-- Values that equations determine.
use Rattle.std.proofs.Common.{◌≡◌, Option, Some, None, Result, Ok, Err}

pub some_same : {X : Type 0} (x y : X) (o : Option X) → o ≡ Some x → o ≡ Some y → x ≡ y
some_same x y o p q = cc

pub none_or_some : {X : Type 0} (x : X) (o : Option X) → o ≡ None → o ≡ Some x → ⊥
none_or_some x o p q = cc

pub ok_same : {X E : Type 0} (x y : X) (r : Result X E) → r ≡ Ok x → r ≡ Ok y → x ≡ y
ok_same x y r p q = cc

pub ok_or_err : {X E : Type 0} (x : X) (e : E) (r : Result X E) → r ≡ Ok x → r ≡ Err e → ⊥
ok_or_err x e r p q = cc
