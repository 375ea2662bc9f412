-- Rows with a value.
use Rattle.std.specs.Prelude.{◌≡◌, ◌<◌, ℕ, ℤ, false, List, length}
use Rattle.std.specs.List.{list_all}
use Rattle.std.proofs.Common.{sym, ap}
use Rattle.vx_base.specs.PlainValue.{PlainValue, int, is_null}
use Rattle.vx_model.specs.Rows.{row_at}
use Rattle.vx_model.proofs.OneValueLemmas.{list_all-stop}

-- where a row has a value, not all are null
pub some_value : (vs : List PlainValue) (i : ℕ) (z : ℤ) → i < length vs → int z ≡ row_at vs i → list_all is_null vs ≡ false
some_value vs i z within e = list_all-stop is_null vs i within (ap is_null (sym e))
