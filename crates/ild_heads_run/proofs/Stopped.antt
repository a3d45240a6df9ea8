-- What holds of a call that stops.
use Rattle.std.proofs.Common.{Result, Ok, Err, OnErr}

-- it is said of the error, where there is one
pub on_err_always : {T E : Type 0} (r : Result T E) (P : Type 0) → P → OnErr r P
on_err_always (Ok x) P p = tt
on_err_always (Err e) P p = p
