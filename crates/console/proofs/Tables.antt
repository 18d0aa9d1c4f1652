-- The table that a machine file means, from the answers of reading and admission.
use Rattle.std.proofs.Common.{◌≡◌, ℕ, List, Ok, Err, Result, refl, sym, ap}
use Rattle.basis.specs.declared.fault.Fault.{Fault}
use Rattle.grammar.specs.Binds.{bind}
use Rattle.grammar.specs.Files.{answer_of, filled_by, read_of}
use Rattle.grammar.specs.Sheets.{Content}
use Rattle.table.specs.Admissions.{admit_of}
use Rattle.console.specs.Pages.{table_in}

module _ {B : Type 0} (f : Content → Result B Fault) where
  -- a refused reading is what follows from it
  pub reading_refused : (r : Result Content Fault) (e : Fault) → Err e ≡ answer_of r → bind r f ≡ Err e
  reading_refused (Ok c) e h = cc
  reading_refused (Err d) e h = cc

  -- else what is read goes on
  pub reading_done : (r : Result Content Fault) (c : Content) → Ok tt ≡ answer_of r → c ≡ filled_by r → bind r f ≡ f c
  reading_done (Ok d) c h e = ap f (sym e)
  reading_done (Err d) c h e = cc

-- a file that is refused has no table, by the same fault; the first part shows the call to look for
pub table_refused : (text : List ℕ) → (table_in text ≡ table_in text) × ((e : Fault) → Err e ≡ answer_of (read_of text) → table_in text ≡ Err e)
unfolding table_in
table_refused text = (refl, λ e h. reading_refused admit_of (read_of text) e h)

-- else its table is that of the sheet
pub table_done : (text : List ℕ) → (table_in text ≡ table_in text) × ((c : Content) → Ok tt ≡ answer_of (read_of text) → c ≡ filled_by (read_of text) → table_in text ≡ admit_of c)
unfolding table_in
table_done text = (refl, λ c h e. reading_done admit_of (read_of text) c h e)
