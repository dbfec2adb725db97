-- What the functions over letters and formats answer.
use Rattle.std.specs.Prelude.{if◌then◌else◌, ℕ, ◌+◌, ◌≤◌, ◌≡◌, List, [], ◌∷◌, length, Result, Ok, Err}
use Prim.Native.Char.{Char}
use Rattle.rules.specs.Basics.{is, Read, got, other, refuse}
use Rattle.rules.specs.declared.Refusal.{Refusal}
use Rattle.digits.specs.Writers.{Laid}
use Rattle.writing.specs.declared.Part.{Part}

-- the text, or none
abbrev pub text_of : Read (List ℕ) → List ℕ
text_of (got s) = s
text_of other = []
text_of (refuse x) = []

-- there is a text
abbrev pub IsText : Read (List ℕ) → Type 0
IsText r = r ≡ got (text_of r)

-- a text is laid; a refusal changes no byte
abbrev pub PutIs : Read (List ℕ) → List ℕ → ℕ → List ℕ → Result ℕ Refusal → Type 0
PutIs (got s) old at new (Ok n) = Laid old at s new n
PutIs (got s) old at new (Err x) = ⊥
PutIs other old at new r = ⊥
PutIs (refuse y) old at new (Ok n) = ⊥
PutIs (refuse y) old at new (Err x) = (x ≡ y) × (new ≡ old)

-- a text of at most n bytes, n being `bound`; or the refusal
abbrev pub CheckIs : Read (List ℕ) → ℕ → Result ℕ Refusal → Type 0
CheckIs (got s) bound (Ok n) = (length s ≤ n) × (n ≡ bound)
CheckIs (got s) bound (Err x) = ⊥
CheckIs other bound r = ⊥
CheckIs (refuse y) bound (Ok n) = ⊥
CheckIs (refuse y) bound (Err x) = x ≡ y

-- The bytes that each letter writes at the most. Those of F g G J s Y may be fewer; the others write as many.
unfoldable pub mosts : List (Char × ℕ)
mosts =
    ("d", 2) ∷ ("e", 2) ∷ ("F", 11) ∷ ("f", 6) ∷ ("g", 3) ∷ ("G", 5) ∷ ("H", 2) ∷ ("I", 2) ∷ ("j", 3) ∷ ("J", 17) ∷ ("k", 2) ∷ ("l", 2) ∷ ("m", 2) ∷ ("M", 2)
    ∷ ("p", 2) ∷ ("P", 2) ∷ ("R", 5) ∷ ("s", 17) ∷ ("S", 2) ∷ ("T", 8) ∷ ("u", 1) ∷ ("U", 2) ∷ ("V", 2) ∷ ("w", 1) ∷ ("W", 2) ∷ ("Y", 5) ∷ ("%", 1) ∷ []

unfoldable pub most_in : List (Char × ℕ) → ℕ → ℕ
most_in [] b = 0
most_in (row ∷ rows) b = if is row.0 b then row.1 else most_in rows b

unfoldable pub most : ℕ → ℕ
most b = most_in mosts b

-- and a format: one for each byte that stands for itself. (A last `%` is refused.)
unfoldable pub most_of : List ℕ → ℕ
most_of [] = 0
most_of (b ∷ []) = 1
most_of (b ∷ c ∷ s) =
    let lettered = most c + most_of s in
    let plain = 1 + most_of (c ∷ s) in
    if is "%" b then lettered else plain

-- what stands at the front of a format f, before the rest
abbrev pub FrontIs : Part → List ℕ → List ℕ → Type 0
FrontIs (Part.Byte b) rest f = (b ≡ 37 → ⊥) × (f ≡ b ∷ rest)
FrontIs (Part.Letter c) rest f = f ≡ 37 ∷ c ∷ rest
FrontIs Part.Last rest f = f ≡ 37 ∷ []
