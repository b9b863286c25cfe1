-- The lines found at the front of a text, and what stands behind them.
use Rattle.std.proofs.Common.{◌≡◌, ℕ, ◌+◌, List, length, drop, sym, ap, ◌∙◌, subst}
use Rattle.std.proofs.lemmas.List.{drop_at, length-append}
use Rattle.af_http.specs.Lines.{text_of}
use Rattle.af_http.specs.Scans.{Passed}

-- the rest is what stands behind so many bytes
pub passed_there : {bytes rest : List ℕ} {at count : ℕ} → Passed bytes rest at count → Passed bytes (drop at bytes) at count
passed_there {bytes} {rest} {at} {count} p =
    subst (λ (r : List ℕ). Passed bytes r at count) (sym (ap (drop at) p.joined ∙ drop_at (text_of p.front) rest at (sym p.at_is))) p

-- the lines found and the rest are the text
pub passed_size : {bytes rest : List ℕ} {at count : ℕ} → Passed bytes rest at count → at + length rest ≡ length bytes
passed_size {bytes} {rest} p = ap (λ k. k + length rest) p.at_is ∙ sym (ap length p.joined ∙ length-append (text_of p.front) rest)
