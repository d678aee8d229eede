-- What a scan of a source has taken, from one read to the next.
use Rattle.std.proofs.Common.{◌≡◌, ◌≤◌, ◌∙◌, ◌⊎◌, ◌++◌, ◌+◌, ◌-◌, [], IfSome, List, None, Option, Some, ap, append_assoc, append-nil, arith, eqb-true, inl, inr, length, refl, suc, subst, sym, take, true, zero, ℕ}
use Rattle.std.proofs.KnownBytes.{Appends-nil, Appends-trans, Consumes-kept, Consumes-nil, Consumes-trans}
use Rattle.std.proofs.Math.Seq.{take-append-add, take-append_seam}
use Rattle.std.proofs.lemmas.List.{length-append, take-append-le, take_all}
use Rattle.std.specs.Io.KnownBytes.{Appends, Consumes, IsAtEnd, Keeps}
use Rattle.hwdb_spec.specs.Outputs.{AppendsPrefix, CutShort}
use Rattle.hwdb_spec.specs.declared.errors.ToolError.{ToolError}
use Rattle.hwdb_spec.specs.declared.errors.ToolError.TheVariants.{Memory, Read, Write}
use Rattle.hwdb_spec_commands.specs.Scans.{counted, lines_from, records_after, scan_text}
use Rattle.hwdb_scan.proofs.PieceLemmas.{added, at_once, held, told}
use Rattle.hwdb_scan.specs.Internal.{IsScanning, IsStoppedBy}
use Rattle.hwdb_scan.specs.Views.{Scanning, after_bytes, bytes_text, is_over, joined, start}

-- before the first read
pub begun : (most : ℕ) (count : Option ℕ) (left out : Option (List ℕ)) (s : Scanning) → s ≡ start count → IsScanning most count left left out out s most
unfolding after_bytes bytes_text
begun most count left out s new = record { read = []; consumed = Consumes-nil left; held = new; taken = Appends-nil out; room = omega arith }

module _ (most : ℕ) (count : Option ℕ) (left_first left out_first out : Option (List ℕ)) (s : Scanning) (room : ℕ) (is : IsScanning most count left_first left out_first out s room) where
  abbrev all_of : List ℕ → List ℕ
  all_of bytes = scan_text count (take most bytes)

  text_is : (bytes : List ℕ) → scan_text count bytes ≡ bytes_text (start count) bytes
  text_is bytes = sym (at_once count bytes)

  -- the lines of what was read, and of more
  with_more : (more : List ℕ) → bytes_text (start count) (is.read ++ more) ≡ bytes_text (start count) is.read ++ bytes_text s more
  with_more more = added (start count) is.read more ∙ ap (λ (x : Scanning). bytes_text (start count) is.read ++ bytes_text x more) (sym is.held)

  -- more was read, and its lines were taken
  pub gone_on : (left_now out_now : Option (List ℕ)) (s_now : Scanning) (room_now : ℕ) (piece : List ℕ) → Consumes left left_now piece → s_now ≡ after_bytes s piece
      → Appends out out_now (bytes_text s piece) → length piece + room_now ≡ room → IsScanning most count left_first left_now out_first out_now s_now room_now
  gone_on left_now out_now s_now room_now piece consumed holds taken fewer = record {
    read = is.read ++ piece;
    consumed = Consumes-trans left_first left left_now is.read piece is.consumed consumed;
    held = holds ∙ ap (λ (x : Scanning). after_bytes x piece) is.held ∙ sym (held (start count) is.read piece);
    taken = subst (Appends out_first out_now) (sym (with_more piece)) (Appends-trans out_first out out_now (bytes_text (start count) is.read) (bytes_text s piece) is.taken taken);
    room = let l = length-append is.read piece in let c = is.room in omega (arith, l, fewer, c);
  }

  -- so much was read at most
  few : length is.read ≤ most
  few = let c = is.room in omega (arith, c)

  -- of a known source the first bytes were read
  parts : (bytes : List ℕ) → left_first ≡ Some bytes → Consumes (Some bytes) left is.read
  parts bytes tells = subst (λ (o : Option (List ℕ)). Consumes o left is.read) tells is.consumed

  rest_of : (bytes : List ℕ) (o : Option (List ℕ)) → Consumes (Some bytes) o is.read → (rest : List ℕ) × (bytes ≡ is.read ++ rest)
  rest_of bytes None nope = absurd nope
  rest_of bytes (Some rest) parts = (rest, parts)

  -- as many of all bytes as are read at most
  at_most : (rest : List ℕ) → take most (is.read ++ rest) ≡ is.read ++ take room rest
  at_most rest = ap (λ (n : ℕ). take n (is.read ++ rest)) (sym is.room) ∙ take-append-add is.read rest room

  -- their lines
  all_text : (rest : List ℕ) → all_of (is.read ++ rest) ≡ bytes_text (start count) is.read ++ bytes_text s (take room rest)
  all_text rest = text_is (take most (is.read ++ rest)) ∙ ap (bytes_text (start count)) (at_most rest) ∙ with_more (take room rest)

  -- what is taken is all, if nothing comes
  all_taken : (bytes rest : List ℕ) → bytes ≡ is.read ++ rest → bytes_text s (take room rest) ≡ [] → Appends out_first out (all_of bytes)
  all_taken bytes rest parts silent =
      subst (Appends out_first out) (sym (ap all_of parts ∙ all_text rest ∙ ap (λ (t : List ℕ). bytes_text (start count) is.read ++ t) silent ∙ append-nil (bytes_text (start count) is.read))) is.taken

  if_told : (Is : List ℕ → Type 0) → ((bytes : List ℕ) → left_first ≡ Some bytes → Is bytes) → IfSome left_first Is
  if_told Is each = by left_first refl
    where
      by : (o : Option (List ℕ)) → left_first ≡ o → IfSome o Is
      by None tells = tt
      by (Some bytes) tells = each bytes tells

  -- as many keys as are asked for were told
  silent : is_over s.wanted ≡ true → (more : List ℕ) → bytes_text s more ≡ []
  silent over more = told s more ∙ by s.wanted over
    where
      by : (wanted : Option ℕ) → is_over wanted ≡ true → joined (counted wanted (lines_from s.known (records_after s.begun more))) ≡ []
      by None over = cc
      by (Some n) over = ap (λ (k : ℕ). joined (take k (lines_from s.known (records_after s.begun more)))) (eqb-true n 0 over)

  pub over_taken : is_over s.wanted ≡ true → IfSome left_first (λ bytes. Appends out_first out (all_of bytes))
  over_taken over = if_told (λ bytes. Appends out_first out (all_of bytes)) (λ bytes tells.
      let rest = rest_of bytes left (parts bytes tells) in
      all_taken bytes rest.0 rest.1 (silent over (take room rest.0)))

  -- no more may be read
  pub room_taken : room ≡ 0 → IfSome left_first (λ bytes. Appends out_first out (all_of bytes))
  unfolding bytes_text
  room_taken none = if_told (λ bytes. Appends out_first out (all_of bytes)) (λ bytes tells.
      let rest = rest_of bytes left (parts bytes tells) in
      all_taken bytes rest.0 rest.1 (ap (λ (n : ℕ). bytes_text s (take n rest.0)) none))

  -- nothing is left
  end_of : (bytes : List ℕ) (o : Option (List ℕ)) → Consumes (Some bytes) o is.read → IsAtEnd o → bytes ≡ is.read ++ []
  end_of bytes None nope end = absurd nope
  end_of bytes (Some rest) parts end = parts ∙ ap (λ (l : List ℕ). is.read ++ l) end

  nothing_more : (n : ℕ) → bytes_text s (take n []) ≡ []
  unfolding bytes_text
  nothing_more zero = refl
  nothing_more (suc n) = refl

  pub end_taken : IsAtEnd left → IfSome left_first (λ bytes. Appends out_first out (all_of bytes))
  end_taken end = if_told (λ bytes. Appends out_first out (all_of bytes)) (λ bytes tells. all_taken bytes [] (end_of bytes left (parts bytes tells) end) (nothing_more room))

  -- the lines of what was read
  read_text : all_of is.read ≡ bytes_text (start count) is.read
  read_text = ap (scan_text count) (take_all most is.read few) ∙ text_is is.read

  read_taken : Appends out_first out (all_of is.read)
  read_taken = subst (Appends out_first out) (sym read_text) is.taken

  -- a read failed
  read_stopped : (left_now : Option (List ℕ)) → Keeps left left_now → IfSome left_first (λ bytes. (read : List ℕ) × Consumes (Some bytes) left_now read × Appends out_first out (all_of read))
  read_stopped left_now keeps =
      if_told (λ bytes. (read : List ℕ) × Consumes (Some bytes) left_now read × Appends out_first out (all_of read))
      (λ bytes tells. (is.read, Consumes-kept (Some bytes) left left_now is.read (parts bytes tells) keeps, read_taken))

  -- there was no memory
  first_of : (bytes rest : List ℕ) → bytes ≡ is.read ++ rest → take (length is.read) bytes ≡ is.read
  first_of bytes rest parts = ap (take (length is.read)) parts ∙ take-append_seam is.read rest

  memory_stopped : IfSome left_first (λ bytes. (n : ℕ) × Appends out_first out (all_of (take n bytes)))
  memory_stopped = if_told (λ bytes. (n : ℕ) × Appends out_first out (all_of (take n bytes))) (λ bytes tells.
      let rest = rest_of bytes left (parts bytes tells) in
      (length is.read, subst (λ (l : List ℕ). Appends out_first out (all_of l)) (sym (first_of bytes rest.0 rest.1)) read_taken))

  -- the output failed in the lines of a piece
  module _ (left_now out_now : Option (List ℕ)) (piece : List ℕ) (within : length piece ≤ room) (consumed : Consumes left left_now piece) (cut : AppendsPrefix out out_now (bytes_text s piece)) where
    abbrev before : List ℕ
    before = bytes_text (start count) is.read

    piece_first : (rest : List ℕ) → bytes_text s (take room (piece ++ rest)) ≡ bytes_text s piece ++ bytes_text (after_bytes s piece) (take (room - length piece) rest)
    piece_first rest =
        let n = room - length piece in
        let same : length piece + n ≡ room = omega (arith, within) in
        ap (bytes_text s) (ap (λ (k : ℕ). take k (piece ++ rest)) (sym same) ∙ take-append-add piece rest n) ∙ added s piece (take n rest)

    cut_in : (text : List ℕ) (rest : List ℕ) → text ≡ before ++ (bytes_text s piece ++ rest) → AppendsPrefix out_first out_now text
    cut_in text rest same =
        let n = cut.0 in
        let lines = bytes_text s piece in
        let shorter : n ≤ length lines = cut.1 in
        let a = length-append before (lines ++ rest) in
        let b = length-append lines rest in
        let c = ap length same in
        let longest : length before + n ≤ length text = omega (arith, a, b, c, shorter) in
        let first : take (length before + n) text ≡ before ++ take n lines =
        ap (take (length before + n)) same ∙ take-append-add before (lines ++ rest) n ∙ ap (λ (l : List ℕ). before ++ l) (take-append-le n lines rest shorter) in
        (length before + n, longest, subst (Appends out_first out_now) (sym first) (Appends-trans out_first out out_now before (take n lines) is.taken cut.2))

    write_stopped : IfSome left_first (λ bytes. AppendsPrefix out_first out_now (all_of bytes))
    write_stopped = if_told (λ bytes. AppendsPrefix out_first out_now (all_of bytes)) (λ bytes tells. by bytes left_now
        (Consumes-trans (Some bytes) left left_now is.read piece (parts bytes tells) consumed))
      where
        by : (bytes : List ℕ) (o : Option (List ℕ)) → Consumes (Some bytes) o (is.read ++ piece) → AppendsPrefix out_first out_now (all_of bytes)
        by bytes None nope = absurd nope
        by bytes (Some rest) both =
            cut_in (all_of bytes) (bytes_text (after_bytes s piece) (take (room - length piece) rest))
            (ap all_of (both ∙ append_assoc is.read piece rest) ∙ all_text (piece ++ rest) ∙ ap (λ (t : List ℕ). before ++ t) (piece_first rest))

  -- ---- the errors
  abbrev Stops : (left_now out_now : Option (List ℕ)) → ToolError → Type 0
  Stops left_now out_now e = IfSome left_first (λ bytes. IsStoppedBy most count bytes left_now out_first out_now e)

  -- a read failed, which took nothing of the source
  pub read_failed : (e : ToolError) (left_now : Option (List ℕ)) → (e ≡ Read) × Keeps left left_now → Stops left_now out e
  read_failed e left_now (is, keeps) = subst (Stops left_now out) (sym is) (read_stopped left_now keeps)

  -- the lines of a piece weren't taken
  pub tell_failed : (e : ToolError) (left_now out_now : Option (List ℕ)) (piece : List ℕ) (failures failures_now : ℕ) → length piece ≤ room → Consumes left left_now piece
      → ((e ≡ Write) × CutShort (bytes_text s piece) out out_now failures failures_now) ⊎ ((e ≡ Memory) × (out_now ≡ out) × (failures_now ≡ failures)) → Stops left_now out_now e
  tell_failed e left_now out_now piece f g within consumed (inl (is, cut)) = subst (Stops left_now out_now) (sym is) (write_stopped left_now out_now piece within consumed cut.prefix)
  tell_failed e left_now out_now piece f g within consumed (inr (is, same, unfailed)) =
      subst (Stops left_now out_now) (sym is) (subst (λ (o : Option (List ℕ)). Stops left_now o Memory) (sym same) memory_stopped)
