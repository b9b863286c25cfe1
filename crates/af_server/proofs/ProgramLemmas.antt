-- A file that is never refused is read.
use Rattle.std.proofs.Common.{◌≡◌, ◌∙◌, inl, inr, ap, ℕ, List, Bool}
use Rattle.std.specs.Prelude.{Result, Ok, Err, IsOk}
use Rattle.af_http.specs.declared.ended.Ended.{Ended}
use Rattle.af_server.specs.declared.reason.Reason.{Reason}
use Rattle.af_server.specs.Configurations.{ConfigurationRows, configuration_of}
use Rattle.af_server.specs.Listenings.{ListeningRows}
use Rattle.af_server.specs.NoPorts.{NoPortRows}
use Rattle.af_server.specs.Programs.{OnceReads, ServeReads, VerifyReads}

-- the error of a result, or another
abbrev error_or : {X : Type 0} → Reason → Result X Reason → Reason
error_or other (Ok x) = other
error_or other (Err why) = why

same_error : (X : Type 0) (one other : Result X Reason) (reason : Reason) → one ≡ other → error_or reason one ≡ error_or reason other
same_error X one other reason same = ap (error_or reason) same

no_error : (comes : Result ConfigurationRows Reason) (why : Reason) → IsOk comes → comes ≡ Err why → ⊥
no_error (Ok x) why fits same = cc
no_error (Err y) why fits same = cc

module _ (Holds : List ℕ → List ℕ → Type 0) (Refuses : List ℕ → Reason → Type 0) where
  pub once_reads : OnceReads Holds Refuses
  once_reads path now before after start finish reason never fits (inl (bytes, holds, (inl refused, stays))) = absurd (no_error (configuration_of bytes) reason (fits bytes holds) refused)
  once_reads path now before after start finish reason never fits (inl (bytes, holds, (inr memory, stays))) = memory
  once_reads path now before after start finish reason never fits (inr (why, inl refuses, same, stays)) = absurd (never why refuses)
  once_reads path now before after start finish reason never fits (inr (why, inr memory, same, stays)) = same_error Ended (Err reason) (Err why) reason same ∙ memory

  pub serve_reads : ServeReads Holds Refuses
  serve_reads path reason never fits (inl (bytes, holds, inl refused)) = absurd (no_error (configuration_of bytes) reason (fits bytes holds) refused)
  serve_reads path reason never fits (inl (bytes, holds, inr memory)) = memory
  serve_reads path reason never fits (inr (why, inl refuses, same)) = absurd (never why refuses)
  serve_reads path reason never fits (inr (why, inr memory, same)) = same_error (Result ListeningRows NoPortRows) (Err reason) (Err why) reason same ∙ memory

  pub verify_reads : VerifyReads Holds Refuses
  verify_reads path reason never fits (inl (bytes, holds, of)) = fits bytes reason holds of
  verify_reads path reason never fits (inr (why, inl refuses, same)) = absurd (never why refuses)
  verify_reads path reason never fits (inr (why, inr memory, same)) = same_error Bool (Err reason) (Err why) reason same ∙ memory
