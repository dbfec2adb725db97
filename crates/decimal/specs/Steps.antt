-- What the steps towards the nearest f64 ensure of each other: whole numbers only.
use Rattle.std.specs.Prelude.{◌≡◌, Bool, not, ℕ, ◌+◌, ◌*◌, ◌^◌, ◌≤◌, ◌<◌, T}

-- moved up by s places, n has its highest bit at the 63rd
pub record Room (n s : ℕ) : Type 0 where
  pub full : 2 ^ 63 ≤ n * 2 ^ s
  pub wide : n * 2 ^ s < 2 ^ 64
  pub few : s < 64
  pub some : n < 2 ^ 63 → 0 < s

-- n is d, so moved
pub record Led (d n s : ℕ) : Type 0 where
  pub is : n ≡ d * 2 ^ s
  pub full : 2 ^ 63 ≤ n
  pub wide : n < 2 ^ 64
  pub few : s ≤ 63

-- n * 2 ^ t / by is m, of 64 bits, and a rest, which is not 0 exactly where `sticky`
pub record Divided (n by m t : ℕ) (sticky : Bool) : Type 0 where
  pub rest : ℕ
  pub is : n * 2 ^ t ≡ m * by + rest
  pub small : rest < by
  pub full : 2 ^ 63 ≤ m
  pub wide : m < 2 ^ 64
  pub few : t ≤ 63
  pub left : T sticky → 0 < rest
  pub none : T (not sticky) → rest ≡ 0

-- n is m * 2 ^ t, with m of 64 bits, and a rest, which is not 0 exactly where `sticky`
pub record Narrowed (n m t : ℕ) (sticky : Bool) : Type 0 where
  pub rest : ℕ
  pub is : n ≡ m * 2 ^ t + rest
  pub small : rest < 2 ^ t
  pub full : 2 ^ 63 ≤ m
  pub wide : m < 2 ^ 64
  pub few : t ≤ 64
  pub left : T sticky → 0 < rest
  pub none : T (not sticky) → rest ≡ 0
