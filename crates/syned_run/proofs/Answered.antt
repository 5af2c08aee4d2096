-- What was written of an answer to what was read.
use Rattle.std.proofs.Common.{◌≡◌, ◌⊎◌, ℕ, ◌+◌, List, Option, length, take, sym, subst, inl, inr}
use Rattle.std.specs.Io.KnownBytes.{Appends, Consumes, Keeps}
use Rattle.script_lines.specs.Dialect.{bytes_in}
use Rattle.script_lines.specs.declared.dialect.Dialect.{Dialect}
use Rattle.syned_run.specs.Ends.{IsFrontOf}
use Rattle.syned_run.specs.Answer.{IsAnswerFor, IsAnswerOf}
use Rattle.syned_run.specs.Bytes.{PutsInto, AnswersIntoFor}

module _ (d : Dialect) where
  -- the answer to the script as code has it
  pub is_answer_of : (left left' : Option (List ℕ)) (read seen printed : List ℕ) (status : ℕ) → Consumes left left' read → IsFrontOf left (bytes_in d + 1) read → seen ≡ read → IsAnswerFor d seen status printed → IsAnswerOf d left left' status printed
  is_answer_of left left' read seen printed status consumed front same answer = (read, consumed, front, subst (λ script. IsAnswerFor d script status printed) same answer)

  -- all of it
  pub wrote_all : (left left' held held' : Option (List ℕ)) (read seen : List ℕ) (code status : ℕ) → Consumes left left' read → IsFrontOf left (bytes_in d + 1) read → seen ≡ read → code ≡ status → ((bytes : List ℕ) × IsAnswerFor d seen status bytes × Appends held held' bytes) → (bytes : List ℕ) × IsAnswerOf d left left' code bytes × Appends held held' bytes
  wrote_all left left' held held' read seen code status consumed front same is (bytes, answer, appended) =
      (bytes, subst (λ s. IsAnswerOf d left left' s bytes) (sym is) (is_answer_of left left' read seen bytes status consumed front same answer), appended)

  -- nothing, or a beginning of it
  pub wrote_some : (left left' held held' : Option (List ℕ)) (read seen : List ℕ) → Consumes left left' read → IsFrontOf left (bytes_in d + 1) read → seen ≡ read → (Keeps held held' ⊎ ((status : ℕ) × (bytes : List ℕ) × IsAnswerFor d seen status bytes × (n : ℕ) × Appends held held' (take n bytes))) → Keeps held held' ⊎ ((status : ℕ) × (bytes : List ℕ) × IsAnswerOf d left left' status bytes × (n : ℕ) × Appends held held' (take n bytes))
  wrote_some left left' held held' read seen consumed front same (inl kept) = inl kept
  wrote_some left left' held held' read seen consumed front same (inr (status, bytes, answer, n, appended)) =
      inr (status, bytes, is_answer_of left left' read seen bytes status consumed front same answer, n, appended)

  -- all of it, into room for it
  pub put_into : (script printed text before after : List ℕ) (code status n : ℕ) → IsAnswerFor d script status printed → code ≡ status → text ≡ printed → length text ≡ n → PutsInto text before after → AnswersIntoFor d script code n before after
  put_into script printed text before after code status n answer is same count put =
      (text, subst (λ s. IsAnswerFor d script s text) (sym is) (subst (λ b. IsAnswerFor d script status b) (sym same) answer), count, put)
