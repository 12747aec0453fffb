-- The names of the four subcommands differ.
use Rattle.std.proofs.Common.{◌≡◌, List, ℕ, codes, ap, arith, slice_index, sym}

pub run_isnt_make : codes "run" ≡ codes "make" → ⊥
run_isnt_make same = let first : ◌≡◌ {A = ℕ} 114 109 = ap (λ (t : List ℕ). slice_index t 0) same in omega (arith, first)

pub run_isnt_race : codes "run" ≡ codes "race" → ⊥
run_isnt_race same = let second : ◌≡◌ {A = ℕ} 117 97 = ap (λ (t : List ℕ). slice_index t 1) same in omega (arith, second)

pub make_isnt_race : codes "make" ≡ codes "race" → ⊥
make_isnt_race same = let first : ◌≡◌ {A = ℕ} 109 114 = ap (λ (t : List ℕ). slice_index t 0) same in omega (arith, first)

pub run_isnt_audit : codes "run" ≡ codes "audit" → ⊥
run_isnt_audit same = let first : ◌≡◌ {A = ℕ} 114 97 = ap (λ (t : List ℕ). slice_index t 0) same in omega (arith, first)

pub make_isnt_audit : codes "make" ≡ codes "audit" → ⊥
make_isnt_audit same = let first : ◌≡◌ {A = ℕ} 109 97 = ap (λ (t : List ℕ). slice_index t 0) same in omega (arith, first)

pub race_isnt_audit : codes "race" ≡ codes "audit" → ⊥
race_isnt_audit same = let first : ◌≡◌ {A = ℕ} 114 97 = ap (λ (t : List ℕ). slice_index t 0) same in omega (arith, first)

pub audit_isnt_run : codes "audit" ≡ codes "run" → ⊥
audit_isnt_run same = run_isnt_audit (sym same)

pub audit_isnt_make : codes "audit" ≡ codes "make" → ⊥
audit_isnt_make same = make_isnt_audit (sym same)

pub audit_isnt_race : codes "audit" ≡ codes "race" → ⊥
audit_isnt_race same = race_isnt_audit (sym same)

pub make_isnt_run : codes "make" ≡ codes "run" → ⊥
make_isnt_run same = run_isnt_make (sym same)

pub race_isnt_run : codes "race" ≡ codes "run" → ⊥
race_isnt_run same = run_isnt_race (sym same)

pub race_isnt_make : codes "race" ≡ codes "make" → ⊥
race_isnt_make same = make_isnt_race (sym same)
