-- What a call that succeeds leaves.
use Rattle.std.proofs.Common.{◌≡◌, cond}
use Rattle.std.specs.Prelude.{Result, Ok, Err, IsOk, OnOk, is_ok}

pub on_ok : {T E P : Type 0} → (result : Result T E) → IsOk result → OnOk result P → P
on_ok (Ok value) ok holds = holds
on_ok (Err fault) ok holds = absurd (cc)

pub push_ok : {T E X : Type 0} → (result : Result T E) (new done old : X) → new ≡ cond (is_ok result) done old → IsOk result → new ≡ done
push_ok (Ok value) new done old is ok = is
push_ok (Err fault) new done old is ok = absurd (cc)
