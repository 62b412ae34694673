-- What ties a step to the compiled function: at every model that has the function's code, a call of its routine gives its caller just `Learnt`, and that is
-- what the page says of the call, of which the steps are made.
use Rattle.std.specs.Prelude.{Result, Bool}
use Prim.Native.Nat.{ℕ}
use mathlib.Core.Path.{◌≡◌, refl}
use mathlib.Core.List.{List}
use contract.Lifetimes.{Lfts}
use denote.Bor.{Bor}
use denote.Ref.{MutBor, at_last}
use borrow.Fn.World.{World}
use borrow.Fn.Kind.{ParamKind, ResultKind}
use borrow.Fn.Kinds.{In, Out}
use borrow.Fn.Plain.{Known}
use borrow.Fn.Run.{Over}
use prog.Routine.{Env, Callee}
use prog.Wired.{Code, Wired}
use Rattle.answers.specs.declared.Refusal.{Refusal}
use Rattle.answers.specs.declared.Found.{Found}
use Rattle.answers.specs.declared.Nearest.{Nearest}
use Rattle.answers.specs.declared.Place.{Place}
use Rattle.answers.specs.Answer.{answer, ask_answer, search_answer, count_answer, list_answer, save_answer, check_answer}
use Rattle.promises.specs.Calls.{MakeMeets, MarkMeets, ClearMeets, AskMeets, NearestMeets, CountMeets, ListMeets, SaveMeets, LoadMeets, FillMeets, CheckMeets}
use Rattle.register.proofs.make.Reads as make_reads
use Rattle.register.proofs.make.Kinds as make_kinds
use Rattle.register.proofs.make.Symbol as make_symbol
use Rattle.register.proofs.make.Met as make_theorem
use Rattle.register.proofs.mark.Reads as mark_reads
use Rattle.register.proofs.mark.Kinds as mark_kinds
use Rattle.register.proofs.mark.Symbol as mark_symbol
use Rattle.register.proofs.mark.Met as mark_theorem
use Rattle.register.proofs.clear.Reads as clear_reads
use Rattle.register.proofs.clear.Kinds as clear_kinds
use Rattle.register.proofs.clear.Symbol as clear_symbol
use Rattle.register.proofs.clear.Met as clear_theorem
use Rattle.register.proofs.ask.Reads as ask_reads
use Rattle.register.proofs.ask.Kinds as ask_kinds
use Rattle.register.proofs.ask.Symbol as ask_symbol
use Rattle.register.proofs.ask.Met as ask_theorem
use Rattle.register.proofs.nearest.Reads as nearest_reads
use Rattle.register.proofs.nearest.Kinds as nearest_kinds
use Rattle.register.proofs.nearest.Symbol as nearest_symbol
use Rattle.register.proofs.nearest.Met as nearest_theorem
use Rattle.register.proofs.count.Reads as count_reads
use Rattle.register.proofs.count.Kinds as count_kinds
use Rattle.register.proofs.count.Symbol as count_symbol
use Rattle.register.proofs.count.Met as count_theorem
use Rattle.register.proofs.list.Reads as list_reads
use Rattle.register.proofs.list.Kinds as list_kinds
use Rattle.register.proofs.list.Symbol as list_symbol
use Rattle.register.proofs.list.Met as list_theorem
use Rattle.register.proofs.save.Reads as save_reads
use Rattle.register.proofs.save.Kinds as save_kinds
use Rattle.register.proofs.save.Symbol as save_symbol
use Rattle.register.proofs.save.Met as save_theorem
use Rattle.register.proofs.load.Reads as load_reads
use Rattle.register.proofs.load.Kinds as load_kinds
use Rattle.register.proofs.load.Symbol as load_symbol
use Rattle.register.proofs.load.Met as load_theorem
use Rattle.register.proofs.fill.Reads as fill_reads
use Rattle.register.proofs.fill.Kinds as fill_kinds
use Rattle.register.proofs.fill.Symbol as fill_symbol
use Rattle.register.proofs.fill.Met as fill_theorem
use Rattle.register.proofs.check.Reads as check_reads
use Rattle.register.proofs.check.Kinds as check_kinds
use Rattle.register.proofs.check.Symbol as check_symbol
use Rattle.register.proofs.check.Met as check_theorem

-- whoever calls the routine of this name, where its code is, with so many lifetimes, asks and learns just this
abbrev pub Gives : (lifetimes : ℕ) (parameters : List (ParamKind lifetimes)) (result : ResultKind lifetimes) → In lifetimes parameters → Out lifetimes parameters result → Code → Callee → Type 2
Gives lifetimes parameters result asked learnt code name = (w : World) → Wired w.𝓡.env code → (γ : Env) (called : Callee) → γ called ≡ w.𝓡.env name
    → Known w.𝓛 (Over w.𝓛 w.𝓜 w.𝓡 γ) lifetimes parameters result asked learnt called

pub make_gives : Gives 1 make_kinds.ps make_kinds.r make_reads.Asked make_reads.Learnt make_symbol.code make_symbol.name
make_gives w wired γ called e = make_reads.known w γ called (w.𝓡.env make_symbol.name) e (make_theorem.met w.𝓤 w.𝓛 w.𝓜 w.𝓡 wired)

pub mark_gives : Gives 1 mark_kinds.ps mark_kinds.r mark_reads.Asked mark_reads.Learnt mark_symbol.code mark_symbol.name
mark_gives w wired γ called e = mark_reads.known w γ called (w.𝓡.env mark_symbol.name) e (mark_theorem.met w.𝓤 w.𝓛 w.𝓜 w.𝓡 wired)

pub clear_gives : Gives 1 clear_kinds.ps clear_kinds.r clear_reads.Asked clear_reads.Learnt clear_symbol.code clear_symbol.name
clear_gives w wired γ called e = clear_reads.known w γ called (w.𝓡.env clear_symbol.name) e (clear_theorem.met w.𝓤 w.𝓛 w.𝓜 w.𝓡 wired)

pub ask_gives : Gives 1 ask_kinds.ps ask_kinds.r ask_reads.Asked ask_reads.Learnt ask_symbol.code ask_symbol.name
ask_gives w wired γ called e = ask_reads.known w γ called (w.𝓡.env ask_symbol.name) e (ask_theorem.met w.𝓤 w.𝓛 w.𝓜 w.𝓡 wired)

pub nearest_gives : Gives 1 nearest_kinds.ps nearest_kinds.r nearest_reads.Asked nearest_reads.Learnt nearest_symbol.code nearest_symbol.name
nearest_gives w wired γ called e = nearest_reads.known w γ called (w.𝓡.env nearest_symbol.name) e (nearest_theorem.met w.𝓤 w.𝓛 w.𝓜 w.𝓡 wired)

pub count_gives : Gives 1 count_kinds.ps count_kinds.r count_reads.Asked count_reads.Learnt count_symbol.code count_symbol.name
count_gives w wired γ called e = count_reads.known w γ called (w.𝓡.env count_symbol.name) e (count_theorem.met w.𝓤 w.𝓛 w.𝓜 w.𝓡 wired)

pub list_gives : Gives 2 list_kinds.ps list_kinds.r list_reads.Asked list_reads.Learnt list_symbol.code list_symbol.name
list_gives w wired γ called e = list_reads.known w γ called (w.𝓡.env list_symbol.name) e (list_theorem.met w.𝓤 w.𝓛 w.𝓜 w.𝓡 wired)

pub save_gives : Gives 2 save_kinds.ps save_kinds.r save_reads.Asked save_reads.Learnt save_symbol.code save_symbol.name
save_gives w wired γ called e = save_reads.known w γ called (w.𝓡.env save_symbol.name) e (save_theorem.met w.𝓤 w.𝓛 w.𝓜 w.𝓡 wired)

pub load_gives : Gives 2 load_kinds.ps load_kinds.r load_reads.Asked load_reads.Learnt load_symbol.code load_symbol.name
load_gives w wired γ called e = load_reads.known w γ called (w.𝓡.env load_symbol.name) e (load_theorem.met w.𝓤 w.𝓛 w.𝓜 w.𝓡 wired)

pub fill_gives : Gives 2 fill_kinds.ps fill_kinds.r fill_reads.Asked fill_reads.Learnt fill_symbol.code fill_symbol.name
fill_gives w wired γ called e = fill_reads.known w γ called (w.𝓡.env fill_symbol.name) e (fill_theorem.met w.𝓤 w.𝓛 w.𝓜 w.𝓡 wired)

pub check_gives : Gives 1 check_kinds.ps check_kinds.r check_reads.Asked check_reads.Learnt check_symbol.code check_symbol.name
check_gives w wired γ called e = check_reads.known w γ called (w.𝓡.env check_symbol.name) e (check_theorem.met w.𝓤 w.𝓛 w.𝓜 w.𝓡 wired)

-- what is learnt of a call, of which the steps are made: the page's words
module _ (κs : Lfts 1) (s : MutBor (List ℕ)) (after : List ℕ) where
  pub make_learnt : (m k n : ℕ) (r : Result (Unit {0}) Refusal) → make_reads.Learnt κs (s, (m, (k, (n, tt)))) r (at_last s after, (m, (k, (n, tt)))) ≡ MakeMeets s.now after m k n (answer r)
  make_learnt m k n r = refl

  pub mark_learnt : (x y : ℕ) (r : Result (Unit {0}) Refusal) → mark_reads.Learnt κs (s, (x, (y, tt))) r (at_last s after, (x, (y, tt))) ≡ MarkMeets s.now after x y (answer r)
  mark_learnt x y r = refl

  pub clear_learnt : (x y : ℕ) (r : Result (Unit {0}) Refusal) → clear_reads.Learnt κs (s, (x, (y, tt))) r (at_last s after, (x, (y, tt))) ≡ ClearMeets s.now after x y (answer r)
  clear_learnt x y r = refl

module _ (κs : Lfts 1) (s : Bor (List ℕ)) where
  pub ask_learnt : (x y : ℕ) (r : Result Place Refusal) → ask_reads.Learnt κs (s, (x, (y, tt))) r (s, (x, (y, tt))) ≡ AskMeets s.now x y (ask_answer r)
  ask_learnt x y r = refl

  pub nearest_learnt : (x y budget : ℕ) (r : Result Nearest Refusal)
      → nearest_reads.Learnt κs (s, (x, (y, (budget, tt)))) r (s, (x, (y, (budget, tt)))) ≡ NearestMeets s.now x y budget (search_answer r)
  nearest_learnt x y budget r = refl

  pub count_learnt : (x0 y0 x1 y1 : ℕ) (r : Result Found Refusal)
      → count_reads.Learnt κs (s, (x0, (y0, (x1, (y1, tt))))) r (s, (x0, (y0, (x1, (y1, tt))))) ≡ CountMeets s.now x0 y0 x1 y1 (count_answer r)
  count_learnt x0 y0 x1 y1 r = refl

  pub check_learnt : (r : Result Bool Refusal) → check_reads.Learnt κs (s, tt) r (s, tt) ≡ CheckMeets s.now (check_answer r)
  check_learnt r = refl

module _ (κs : Lfts 2) (s : Bor (List ℕ)) (o : MutBor (List ℕ)) (written : List ℕ) where
  pub list_learnt : (x0 y0 x1 y1 : ℕ) (r : Result Found Refusal)
      → list_reads.Learnt κs (s, (x0, (y0, (x1, (y1, (o, tt)))))) r (s, (x0, (y0, (x1, (y1, (at_last o written, tt))))))
      ≡ ListMeets s.now x0 y0 x1 y1 o.now written (list_answer r)
  list_learnt x0 y0 x1 y1 r = refl

  pub save_learnt : (r : Result ℕ Refusal) → save_reads.Learnt κs (s, (o, tt)) r (s, (at_last o written, tt)) ≡ SaveMeets s.now o.now written (save_answer r)
  save_learnt r = refl

module _ (κs : Lfts 2) (s : MutBor (List ℕ)) (given : Bor (List ℕ)) (after : List ℕ) where
  pub load_learnt : (r : Result (Unit {0}) Refusal) → load_reads.Learnt κs (s, (given, tt)) r (at_last s after, (given, tt)) ≡ LoadMeets s.now after given.now (answer r)
  load_learnt r = refl

  pub fill_learnt : (r : Result (Unit {0}) Refusal) → fill_reads.Learnt κs (s, (given, tt)) r (at_last s after, (given, tt)) ≡ FillMeets s.now after given.now (answer r)
  fill_learnt r = refl
