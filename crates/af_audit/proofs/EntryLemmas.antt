-- What holds of entries once there is one more.
use Rattle.std.proofs.Common.{◌≡◌, ◌∙◌, sym, ap, refl, ℕ, zero, suc, ◌+◌, ◌-◌, ◌<◌, ◌≤◌, List, [], ◌∷◌, ◌++◌, length, get_or, take, add-one, arith}
use Rattle.std.specs.List.{range_with_len}
use Rattle.std.proofs.lemmas.List.{length-append, length-take-le, map-append, take-map}
use Rattle.std.proofs.lemmas.List.FromFn.{get_or-range_with_len}
use Rattle.std.proofs.Math.ListN.{get_or-map}
use Rattle.std.proofs.Math.Seq.{take-append_seam}
use Rattle.af_audit.specs.declared.entry.Entry.{Entry}
use Rattle.af_audit.specs.Entries.{AreNumbered, AuditRows, IsAudit, with_entry}
use Rattle.af_audit.specs.Laws.{NumbersHaveNoGap}

-- one more number
range_more : (a n : ℕ) → range_with_len a (suc n) ≡ range_with_len a n ++ (a + n) ∷ []
range_more a zero =
    let e : a ≡ a + 0 = omega arith in
    ap (λ (k : ℕ). k ∷ []) e
range_more a (suc n) =
    let e : a + 1 + n ≡ a + suc n = omega arith in
    ap (λ (rest : List ℕ). a ∷ rest) (range_more (a + 1) n ∙ ap (λ (k : ℕ). range_with_len (a + 1) n ++ k ∷ []) e)

pub numbered_more : (entries : List Entry) (entry : Entry) → AreNumbered entries → entry.seq ≡ length entries + 1 → AreNumbered (entries ++ entry ∷ [])
numbered_more entries entry numbered next =
    let long : length (entries ++ entry ∷ []) ≡ suc (length entries) = length-append entries (entry ∷ []) ∙ add-one (length entries) in
    let last : entry.seq ≡ 1 + length entries = next ∙ omega arith in
    rw (map-append, long, range_more 1 (length entries), numbered, last) refl

pub audit_more : (audit : AuditRows) (entry : Entry) → IsAudit audit → entry.seq ≡ length audit.entries + 1 → length audit.entries < audit.limit → IsAudit (with_entry audit entry)
audit_more audit entry is next room = record {
  numbered = numbered_more audit.entries entry is.numbered next;
  within = rw (length-append audit.entries (entry ∷ [])) (omega (arith, room));
}

pub no_gap : NumbersHaveNoGap
no_gap entries place d numbered inside =
    sym (get_or-map (λ (entry : Entry). entry.seq) entries place d)
    ∙ ap (λ (numbers : List ℕ). get_or numbers place d.seq) numbered
    ∙ get_or-range_with_len 1 (length entries) place d.seq inside
    ∙ omega arith

-- the first numbers
range_front : (a n k : ℕ) → k ≤ n → take k (range_with_len a n) ≡ range_with_len a k
range_front a n zero le = refl
range_front a zero (suc k) le = absurd (omega (arith, le))
range_front a (suc n) (suc k) le = ap (λ (rest : List ℕ). a ∷ rest) (range_front (a + 1) n k (omega (arith, le)))

-- the first entries of an audit
pub audit_front : (audit : AuditRows) (k : ℕ) → k ≤ length audit.entries → IsAudit audit → IsAudit (record audit { entries = take k audit.entries })
audit_front audit k le is =
    let long : length (take k audit.entries) ≡ k = length-take-le k audit.entries le in
    record {
      numbered =
          sym (take-map (λ (entry : Entry). entry.seq) k audit.entries)
          ∙ ap (take k) is.numbered
          ∙ range_front 1 (length audit.entries) k le
          ∙ ap (range_with_len 1) (sym long);
      within = let small = is.within in omega (arith, long, le, small);
    }

-- an entry that is taken back
taken_back : (entries : List Entry) (entry : Entry) → take (length (entries ++ entry ∷ []) - 1) (entries ++ entry ∷ []) ≡ entries
taken_back entries entry =
    let k : length (entries ++ entry ∷ []) - 1 ≡ length entries = omega (arith, length-append entries (entry ∷ [])) in
    ap (λ (n : ℕ). take n (entries ++ entry ∷ [])) k ∙ take-append_seam entries (entry ∷ [])

pub audit_back : (old audit : AuditRows) (entry : Entry) → old ≡ with_entry audit entry → record old { entries = take (length old.entries - 1) old.entries } ≡ audit
audit_back old audit entry is =
    ap (λ (grown : AuditRows). record grown { entries = take (length grown.entries - 1) grown.entries }) is
    ∙ ap (λ (entries : List Entry). record audit { entries = entries }) (taken_back audit.entries entry)
