-- The answer of admission from what was found of a sheet.
use Rattle.std.proofs.Common.{◌≡◌, ℕ, ◌+◌, length, Some, None, Err, Ok, Option, Result, ok_or, option_map, subst, sym, ap, ◌∙◌, ap₂}
use Rattle.std.specs.Result.{MatchResult, IsErrAnd}
use Rattle.std.proofs.lemmas.List.{length-map}
use Rattle.basis.specs.declared.fault.Reason.TheVariants.{LongCycle, Overfull}
use Rattle.basis.specs.Faults.{fault_at, fault_of}
use Rattle.grammar.specs.Sheets.{Content}
use Rattle.grammar.proofs.Bound.{not_both, ok_injective}
use Rattle.theory.specs.Loads.{Loads}
use Rattle.table.specs.Cycles.{cycle_of, long_at}
use Rattle.table.specs.Allowances.{fits_at, base_of}
use Rattle.table.specs.Admissions.{Admitted, load_of, loads_of, line_at, table_of, with_base, with_cycle, admit_of}

-- what is known of a result once `map_err` has run on it
module _ {T E D : Type 0} (P : T → Type 0) (Q : E → Type 0) (R : E → D → Type 0) where
  pub ok_mapped : (r : Result T E) {m : Result T D} {x : T} → MatchResult r P Q → MatchResult r (λ x. m ≡ Ok x) (λ e. IsErrAnd m (R e)) → m ≡ Ok x → P x
  ok_mapped (Ok y) {x = x} h ran e = let f : y ≡ x = ok_injective (sym ran ∙ e) in subst P f h
  ok_mapped (Err y) h ran e = absurd (subst (λ n. IsErrAnd n (R y)) e ran)

  pub err_mapped : (r : Result T E) {m : Result T D} {d : D} → MatchResult r P Q → MatchResult r (λ x. m ≡ Ok x) (λ e. IsErrAnd m (R e)) → m ≡ Err d → (e : E) × Q e × R e d
  err_mapped (Ok y) h ran e = absurd (not_both (sym (sym ran ∙ e)))
  err_mapped (Err y) h ran e = (y, h, subst (λ n. IsErrAnd n (R y)) e ran)

-- what is known of an option once `ok_or` has run on it
module _ {T E B : Type 0} (f : T → B) where
  pub some_given : (o : Option T) (w : E) {x : T} {b : Option B} → option_map f o ≡ b → ok_or o w ≡ Ok x → b ≡ Some (f x)
  some_given (Some y) w {x = x} h e = let g : y ≡ x = ok_injective e in sym h ∙ ap (λ z. Some (f z)) g
  some_given None w h e = absurd (not_both e)

  pub none_given : (o : Option T) (w : E) {d : E} {b : Option B} → option_map f o ≡ b → ok_or o w ≡ Err d → (b ≡ None) × (d ≡ w)
  none_given (Some y) w h e = absurd (not_both (sym e))
  none_given None w h e = (sym h, cc)

module _ (c : Content) {T : Loads} (u : T ≡ loads_of c.tasks) where
  -- the cycle is too long
  pub refused_long : {i : ℕ} → cycle_of T ≡ None → long_at T (length T) ≡ Some i → admit_of c ≡ Err (fault_at LongCycle (c.first + i))
  unfolding admit_of
  refused_long {i} none at =
      let n : length T ≡ length c.tasks = ap length u ∙ length-map c.tasks load_of in
      ap (with_cycle c) (ap cycle_of (sym u) ∙ none)
      ∙ ap (λ x. Err (fault_at LongCycle (line_at c.first x))) (ap₂ long_at (sym u) (sym n) ∙ at)

  module _ {H : ℕ} (some : cycle_of T ≡ Some H) where
    with_base_lem : admit_of c ≡ with_base c H (base_of c.levels (fits_at T H))
    unfolding admit_of
    with_base_lem =
        ap (with_cycle c) (ap cycle_of (sym u) ∙ some)
        ∙ ap (λ (x : Loads). with_base c H (base_of c.levels (fits_at x H))) (sym u)

    -- no level fits
    pub refused_full : base_of c.levels (fits_at T H) ≡ None → admit_of c ≡ Err (fault_of Overfull)
    refused_full b = with_base_lem ∙ ap (with_base c H) b

    -- a level fits
    pub accepted : {b : ℕ} {t : Admitted} → base_of c.levels (fits_at T H) ≡ Some b → t ≡ table_of c H b → admit_of c ≡ Ok t
    accepted b q = with_base_lem ∙ (ap (with_base c H) b ∙ ap (λ x. Ok x) (sym q))
