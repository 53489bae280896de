use Rattle.std.proofs.Common.{◌≡◌, ℕ, ◌+◌, ◌<◌, ◌≤◌, List, [], length, take, Option, Some, None, Err, refl, sym, subst, arith, ◌∙◌}
use Rattle.std.specs.Prelude.{IfSome, IsErrOf}
use Rattle.std.proofs.lemmas.List.{length-append, length-take, length-drop}
use Rattle.std.proofs.lemmas.Result.{err_from_is_err_and}
use Rattle.text_io.specs.Causes.{TakesBytes}
use Rattle.text_io.proofs.KnownBytes.{takes_none, front_kept, read_more}
use Rattle.text_io.specs.declared.transfer.ReadEnd.TheVariants.{the_data, Failed, TooLong, NoMemory}
use Rattle.text_io.proofs.transfer.read_all.Goals as goal

pub loop-bytes-init : goal.loop-bytes-init
loop-bytes-init g c = record {
  room = omega (arith, c.in_ok-bytes.ensures.capacity);
  within = omega (arith, c.in_ok-bytes.ensures.len);
  taken = subst (TakesBytes (g.S.Source.left c.args.source.now) (g.S.Source.left c.args.source.now)) (sym c.in_ok-bytes.ensures.items) (takes_none (g.S.Source.left c.args.source.now));
  calm = refl;
}

pub loop-bytes-preserved : goal.loop-bytes-preserved
loop-bytes-preserved g c =
    let len = c.len-len.result in
    let before = c.loop-bytes.bytes.items in
    let buffer = c.deref_mut.result.now in
    let count = c.in_ok-count.count in
    let long : length before ≡ len = omega (arith, c.len-len.ensures, c.loop-bytes.bytes.ok.0) in
    let within : len + count ≤ c.resize.new.self.len =
    omega (arith, length-take {A = ℕ}, length-drop {A = ℕ}, c.read.auto.buf, c.deref_mut.ensures.len, c.in_ok-count.ensures.count) in
    let front : take len buffer ≡ before = front_kept before buffer _ len c.read_length.result long (c.deref_mut.ensures.value ∙ c.in_ok-resize.ensures.items) in
    record {
      room = omega (arith, c.loop-bytes.invariant.room, c.in_ok-resize.ensures.capacity, c.truncate.ensures.capacity);
      within = omega (arith, within, c.truncate.ensures.len, c.in_ok-resize.ensures.len, c.read_length.ensures.within, c.loop-bytes.invariant.within, c.len-len.ensures);
      taken = subst (TakesBytes (g.S.Source.left c.args.source.now) (g.S.Source.left c.read.new.self)) (sym c.truncate.ensures.items)
          (read_more _ _ _ buffer c.read.new.buf _ _ len count c.resize.new.self.len
          (omega (arith, c.deref_mut.ensures.len, c.in_ok-resize.ensures.len)) c.in_ok-count.ensures.count within
          (subst (TakesBytes (g.S.Source.left c.args.source.now) (g.S.Source.left c.loop-bytes.source)) (sym front) c.loop-bytes.invariant.taken) c.in_ok-count.ensures.taken);
      calm = c.in_ok-count.ensures.ok ∙ c.loop-bytes.invariant.calm;
    }

memory_not_long : {V : Type 0} → IsErrOf {T = V} {E = the_data} (Err NoMemory) TooLong → ⊥
memory_not_long e = cc

memory_not_failed : {V : Type 0} → IsErrOf {T = V} {E = the_data} (Err NoMemory) Failed → ⊥
memory_not_failed e = cc

failed_not_long : {V : Type 0} → IsErrOf {T = V} {E = the_data} (Err Failed) TooLong → ⊥
failed_not_long e = cc

failed_not_memory : {V : Type 0} → IsErrOf {T = V} {E = the_data} (Err Failed) NoMemory → ⊥
failed_not_memory e = cc

long_not_failed : {V : Type 0} → IsErrOf {T = V} {E = the_data} (Err TooLong) Failed → ⊥
long_not_failed e = cc

long_not_memory : {V : Type 0} → IsErrOf {T = V} {E = the_data} (Err TooLong) NoMemory → ⊥
long_not_memory e = cc

-- a source from which too many bytes were read has too many
had_more : (a b : Option (List ℕ)) (taken : List ℕ) (limit : ℕ) → TakesBytes a b taken → limit < length taken → IfSome a (λ bytes. limit < length bytes)
had_more None b taken limit h l = tt
had_more (Some xs) None taken limit h l = absurd h
had_more (Some xs) (Some ys) taken limit h l = rw h (omega (arith, length-append taken ys, l))

pub returns-in_err-bytes : goal.returns-in_err-bytes
returns-in_err-bytes g c =
    let p = err_from_is_err_and c.from_residual.result c.from_residual.ensures.1 in
    rw (p.1, p.2) (record {
      all = tt;
      end = tt;
      within = tt;
      too_long = λ e. absurd (memory_not_long e);
      taken = ([], takes_none (g.S.Source.left c.args.source.now), omega arith, (λ e. absurd (memory_not_long e), λ l. absurd (omega (arith, l))));
      failed = λ _. (λ e. absurd (memory_not_failed e), λ l. absurd (omega (arith, l)));
      later = omega arith;
      no_memory = λ _. refl;
    })

-- there is room for as many bytes as are asked for
pub returns-in_err-resize : goal.returns-in_err-resize
returns-in_err-resize g c = absurd (omega (arith, c.in_err-resize.ensures.full, c.loop-bytes.invariant.room, c.loop-bytes.invariant.within, c.read_length.ensures.within, c.len-len.ensures))

pub returns-in_err-count : goal.returns-in_err-count
returns-in_err-count g c =
    let p = err_from_is_err_and c.from_residual-in_err-count.result c.from_residual-in_err-count.ensures.1 in
    rw (p.1, p.2) (record {
      all = tt;
      end = tt;
      within = tt;
      too_long = λ e. absurd (failed_not_long e);
      taken = (
        c.loop-bytes.bytes.items,
        subst (λ b. TakesBytes (g.S.Source.left c.args.source.now) b c.loop-bytes.bytes.items) (sym c.in_err-count.ensures.untouched) c.loop-bytes.invariant.taken,
        omega (arith, c.loop-bytes.invariant.within, c.loop-bytes.bytes.ok.0),
        (λ e. absurd (failed_not_long e), λ l. absurd (omega (arith, l, c.loop-bytes-test.true, c.len.ensures, c.loop-bytes.bytes.ok.0))),
      );
      failed = λ small. (λ _. omega (arith, small, c.loop-bytes.invariant.calm, c.in_err-count.ensures.failed), λ _. refl);
      later = omega (arith, c.loop-bytes.invariant.calm, c.in_err-count.ensures.later);
      no_memory = λ e. absurd (failed_not_memory e);
    })

pub returns : goal.returns
returns g c =
    let long : c.args.limit < length c.loop-bytes.bytes.items = omega (arith, c.loop-bytes-test.false, c.len.ensures, c.loop-bytes.bytes.ok.0) in
    record {
      all = tt;
      end = tt;
      within = tt;
      too_long = λ _. had_more _ _ c.loop-bytes.bytes.items c.args.limit c.loop-bytes.invariant.taken long;
      taken = (c.loop-bytes.bytes.items, c.loop-bytes.invariant.taken, omega (arith, c.loop-bytes.invariant.within, c.loop-bytes.bytes.ok.0), (λ _. long, λ _. refl));
      failed = λ _. (λ e. absurd (long_not_failed e), λ l. absurd (omega (arith, l, c.loop-bytes.invariant.calm)));
      later = omega (arith, c.loop-bytes.invariant.calm);
      no_memory = λ e. absurd (long_not_memory e);
    }
