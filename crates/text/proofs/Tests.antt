-- Tests and their truth values. Assumes nothing.
use mathlib.Core.Bool.{Bool, true, false, ◌&&◌}
use mathlib.Core.Path.{◌≡◌, refl}

pub and_true : (t : Bool) → t && true ≡ t
and_true true = refl
and_true false = refl

pub and_false : (t : Bool) → t && false ≡ false
and_false true = refl
and_false false = refl

pub and_left : (t u : Bool) → t && u ≡ true → t ≡ true
and_left true u h = refl
and_left false u h = h

pub and_right : (t u : Bool) → t && u ≡ true → u ≡ true
and_right true u h = h
and_right false true h = refl
and_right false false h = h
