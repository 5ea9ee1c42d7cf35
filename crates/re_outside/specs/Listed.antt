-- A list, and how many items it can take without memory.
use Rattle.std.specs.Prelude.{ℕ, List, refl}
use Rattle.std.specs.Coded.{Coded, code_by, coded×, coded_ℕ, coded_list}

-- the items in order, and the number of pushes that can't fail
pub record Listed (T : Type 0) : Type 0 where
  pub items : List T
  pub spare : ℕ

-- the list alone, with nothing reserved
abbrev pub plain : {T : Type 0} → List T → Listed T
plain xs = record { items = xs; spare = 0 }

-- a list is stored as the pair of its items and its spare
abbrev pub listed_code : {T : Type 0} → Coded T → Coded (Listed T)
listed_code {T} c = code_by (List T × ℕ) (coded× (coded_list c) coded_ℕ) (λ l. (l.items, l.spare)) (λ p. record { items = p.0; spare = p.1 }) (λ _. refl)
