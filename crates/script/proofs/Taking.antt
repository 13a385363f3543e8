-- Calls that are taken from a script one by one. Assumes nothing.
use Rattle.std.proofs.Common.{◌≡◌, ℕ, suc, ◌+◌, true, false, eqb, List, [], ◌∷◌, ◌++◌, length, sym, ap, ◌∙◌, subst, append_assoc, append-nil, arith, length-append}
use Rattle.std.proofs.lemmas.List.{nil_from_length}
use Rattle.std.proofs.lemmas.Bool.{false≢true, eqb-true}
use Rattle.search.specs.declared.numbers.Call.{Call}
use Rattle.script.specs.Calls.{Writes}
use Rattle.lines.specs.Lines.{line, behind}
use Rattle.script.specs.Scripts.{WritesCalls, NoCallAt}

-- the calls that are done stand before the rest, which leads on to the whole
pub record Leads (bytes : List ℕ) (done : List Call) (rest : List ℕ) : Type 0 where
  pub writes : (cs : List Call) (text : List ℕ) → WritesCalls rest cs text → WritesCalls bytes (done ++ cs) text
  pub wrong : (n : ℕ) → NoCallAt rest n → NoCallAt bytes (length done + n)

pub leads_all : (bytes : List ℕ) (done : List Call) → done ≡ [] → Leads bytes done bytes
leads_all bytes done none = record {
  writes = λ cs text w. subst (λ l. WritesCalls bytes (l ++ cs) text) (sym none) w;
  wrong = λ n w. let same : n ≡ length done + n = omega (arith, ap length none) in subst (NoCallAt bytes) same w;
}

module _ (bytes : List ℕ) (done : List Call) (rest : List ℕ) (lead : Leads bytes done rest) where
  pub leads_more : (c : Call) → (line rest ≡ [] → ⊥) → Writes (line rest) c → (done' : List Call) (rest' : List ℕ) → done' ≡ done ++ (c ∷ []) → rest' ≡ behind rest → Leads bytes done' rest'
  leads_more c some is done' rest' e f = record {
    writes = λ cs text w.
        let now = lead.writes (c ∷ cs) text (some, is, subst (λ l. WritesCalls l cs text) f w) in
        subst (λ l. WritesCalls bytes l text) (sym (ap (λ l. l ++ cs) e ∙ append_assoc done (c ∷ []) cs)) now;
    wrong = λ n w.
        let same : length done + suc n ≡ length done' + n = omega (arith, ap length e, length-append done (c ∷ [])) in
        subst (NoCallAt bytes) same (lead.wrong (suc n) (some, (c, is), subst (λ l. NoCallAt l n) f w));
  }

  pub leads_end : (text : List ℕ) → line rest ≡ [] → text ≡ behind rest → WritesCalls bytes done text
  leads_end text none is = subst (λ l. WritesCalls bytes l text) (append-nil done) (lead.writes [] text (none, is))

  pub leads_wrong : (line rest ≡ [] → ⊥) → ((c : Call) → Writes (line rest) c → ⊥) → NoCallAt bytes (length done)
  leads_wrong some none = let same : length done + 0 ≡ length done = omega arith in subst (NoCallAt bytes) same (lead.wrong 0 (some, none))

-- by the test whether a line is empty
pub not_empty : (bytes first : List ℕ) → first ≡ line bytes → false ≡ eqb (length first) 0 → line bytes ≡ [] → ⊥
not_empty bytes first is some e = false≢true (some ∙ ap (λ l. eqb (length l) 0) (is ∙ e))

pub empty : (first : List ℕ) → true ≡ eqb (length first) 0 → first ≡ []
empty first none = nil_from_length first (eqb-true (length first) 0 (sym none))
