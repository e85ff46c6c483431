-- The outcomes of the exports are determined.
-- Assumes nothing.
use Prim.Native.Nat.{ℕ}
use mathlib.Core.List.{List}
use Rattle.flat.proofs.Outcomes.{Answered, Determined, same_answer, same-flat-reply}
use Rattle.flat_record.proofs.Settled.{same_taken}
use Rattle.flat_log.proofs.Settled.{same-entered}
use Rattle.flat_pieces.proofs.Settled.{same-piece}
use Rattle.hinurapay_c.proofs.reading.hp_soup_read.Kinds as hp-soup-read
use Rattle.hinurapay_c.proofs.reading.hp_soup_read.Reads as hp-soup-read-reads
use Rattle.hinurapay_c.proofs.reading.hp_ufo_read_down.Kinds as hp-ufo-read-down
use Rattle.hinurapay_c.proofs.reading.hp_ufo_read_down.Reads as hp-ufo-read-down-reads
use Rattle.hinurapay_c.proofs.reading.hp_ufo_read_up.Kinds as hp-ufo-read-up
use Rattle.hinurapay_c.proofs.reading.hp_ufo_read_up.Reads as hp-ufo-read-up-reads
use Rattle.hinurapay_c.proofs.reading.hp_ufo_read_message.Kinds as hp-ufo-read-message
use Rattle.hinurapay_c.proofs.reading.hp_ufo_read_message.Reads as hp-ufo-read-message-reads
use Rattle.hinurapay_c.proofs.reading.hp_memx_read.Kinds as hp-memx-read
use Rattle.hinurapay_c.proofs.reading.hp_memx_read.Reads as hp-memx-read-reads
use Rattle.hinurapay_c.proofs.reading.hp_tcp_read.Kinds as hp-tcp-read
use Rattle.hinurapay_c.proofs.reading.hp_tcp_read.Reads as hp-tcp-read-reads
use Rattle.hinurapay_c.proofs.reading.hp_next_block.Kinds as hp-next-block
use Rattle.hinurapay_c.proofs.reading.hp_next_block.Reads as hp-next-block-reads
use Rattle.hinurapay_c.proofs.writing.hp_soup_write.Kinds as hp-soup-write
use Rattle.hinurapay_c.proofs.writing.hp_soup_write.Reads as hp-soup-write-reads
use Rattle.hinurapay_c.proofs.writing.hp_ufo_write_down.Kinds as hp-ufo-write-down
use Rattle.hinurapay_c.proofs.writing.hp_ufo_write_down.Reads as hp-ufo-write-down-reads
use Rattle.hinurapay_c.proofs.writing.hp_ufo_write_message.Kinds as hp-ufo-write-message
use Rattle.hinurapay_c.proofs.writing.hp_ufo_write_message.Reads as hp-ufo-write-message-reads
use Rattle.hinurapay_c.proofs.writing.hp_ufo_add_message.Kinds as hp-ufo-add-message
use Rattle.hinurapay_c.proofs.writing.hp_ufo_add_message.Reads as hp-ufo-add-message-reads
use Rattle.hinurapay_c.proofs.writing.hp_memx_write.Kinds as hp-memx-write
use Rattle.hinurapay_c.proofs.writing.hp_memx_write.Reads as hp-memx-write-reads
use Rattle.hinurapay_c.proofs.writing.hp_tcp_write.Kinds as hp-tcp-write
use Rattle.hinurapay_c.proofs.writing.hp_tcp_write.Reads as hp-tcp-write-reads
use Rattle.hinurapay_c.proofs.pieces.hp_soup_take.Kinds as hp-soup-take
use Rattle.hinurapay_c.proofs.pieces.hp_soup_take.Reads as hp-soup-take-reads
use Rattle.hinurapay_c.proofs.keeping.hp_open_ufo.Kinds as hp-open-ufo
use Rattle.hinurapay_c.proofs.keeping.hp_open_ufo.Reads as hp-open-ufo-reads
use Rattle.hinurapay_c.proofs.keeping.hp_open_memx.Kinds as hp-open-memx
use Rattle.hinurapay_c.proofs.keeping.hp_open_memx.Reads as hp-open-memx-reads
use Rattle.hinurapay_c.proofs.keeping.hp_take.Kinds as hp-take
use Rattle.hinurapay_c.proofs.keeping.hp_take.Reads as hp-take-reads
use Rattle.hinurapay_c.proofs.keeping.hp_standing_of.Kinds as hp-standing-of
use Rattle.hinurapay_c.proofs.keeping.hp_standing_of.Reads as hp-standing-of-reads
use Rattle.hinurapay_c.proofs.keeping.hp_missing_range.Kinds as hp-missing-range
use Rattle.hinurapay_c.proofs.keeping.hp_missing_range.Reads as hp-missing-range-reads
use Rattle.hinurapay_c.proofs.keeping.hp_ask.Kinds as hp-ask
use Rattle.hinurapay_c.proofs.keeping.hp_ask.Reads as hp-ask-reads
use Rattle.hinurapay_c.proofs.waiting.hp_time.Kinds as hp-time
use Rattle.hinurapay_c.proofs.waiting.hp_time.Reads as hp-time-reads
use Rattle.hinurapay_c.proofs.waiting.hp_wait_of.Kinds as hp-wait-of
use Rattle.hinurapay_c.proofs.waiting.hp_wait_of.Reads as hp-wait-of-reads
use Rattle.hinurapay_c.proofs.waiting.hp_line_lost.Kinds as hp-line-lost
use Rattle.hinurapay_c.proofs.waiting.hp_line_lost.Reads as hp-line-lost-reads
use Rattle.hinurapay_c.proofs.waiting.hp_heartbeat_due.Kinds as hp-heartbeat-due
use Rattle.hinurapay_c.proofs.waiting.hp_heartbeat_due.Reads as hp-heartbeat-due-reads
use Rattle.hinurapay_c.proofs.lending.hp_log_add.Kinds as hp-log-add
use Rattle.hinurapay_c.proofs.lending.hp_log_add.Reads as hp-log-add-reads
use Rattle.hinurapay_c.proofs.lending.hp_log_add_many.Kinds as hp-log-add-many
use Rattle.hinurapay_c.proofs.lending.hp_log_add_many.Reads as hp-log-add-many-reads
use Rattle.hinurapay_c.proofs.lending.hp_log_declare_end.Kinds as hp-log-declare-end
use Rattle.hinurapay_c.proofs.lending.hp_log_declare_end.Reads as hp-log-declare-end-reads
use Rattle.hinurapay_c.proofs.lending.hp_log_answer.Kinds as hp-log-answer
use Rattle.hinurapay_c.proofs.lending.hp_log_answer.Reads as hp-log-answer-reads
use Rattle.hinurapay_c.proofs.lending.hp_log_heartbeat.Kinds as hp-log-heartbeat
use Rattle.hinurapay_c.proofs.lending.hp_log_heartbeat.Reads as hp-log-heartbeat-reads
use Rattle.hinurapay_c.proofs.lending.hp_log_end_packet.Kinds as hp-log-end-packet
use Rattle.hinurapay_c.proofs.lending.hp_log_end_packet.Reads as hp-log-end-packet-reads

hp-soup-read-is : Answered 1 hp-soup-read.ps hp-soup-read.r hp-soup-read-reads.Post
hp-soup-read-is κs a x y s t = same_answer

hp-ufo-read-down-is : Answered 1 hp-ufo-read-down.ps hp-ufo-read-down.r hp-ufo-read-down-reads.Post
hp-ufo-read-down-is κs a x y s t = same_answer

hp-ufo-read-up-is : Answered 1 hp-ufo-read-up.ps hp-ufo-read-up.r hp-ufo-read-up-reads.Post
hp-ufo-read-up-is κs a x y s t = same_answer

hp-ufo-read-message-is : Answered 1 hp-ufo-read-message.ps hp-ufo-read-message.r hp-ufo-read-message-reads.Post
hp-ufo-read-message-is κs a x y s t = same_answer

hp-memx-read-is : Answered 1 hp-memx-read.ps hp-memx-read.r hp-memx-read-reads.Post
hp-memx-read-is κs a x y s t = same_answer

hp-tcp-read-is : Answered 1 hp-tcp-read.ps hp-tcp-read.r hp-tcp-read-reads.Post
hp-tcp-read-is κs a x y s t = same_answer

hp-next-block-is : Answered 1 hp-next-block.ps hp-next-block.r hp-next-block-reads.Post
hp-next-block-is κs a x y s t = same_answer

hp-soup-write-is : Determined 2 hp-soup-write.ps hp-soup-write.r (List ℕ) (λ κs s. s.1.1.0.now) hp-soup-write-reads.Post
hp-soup-write-is κs a x y s t = same-flat-reply

hp-ufo-write-down-is : Determined 2 hp-ufo-write-down.ps hp-ufo-write-down.r (List ℕ) (λ κs s. s.1.1.0.now)
    hp-ufo-write-down-reads.Post
hp-ufo-write-down-is κs a x y s t = same-flat-reply

hp-ufo-write-message-is : Determined 2 hp-ufo-write-message.ps hp-ufo-write-message.r (List ℕ) (λ κs s. s.1.1.0.now)
    hp-ufo-write-message-reads.Post
hp-ufo-write-message-is κs a x y s t = same-flat-reply

hp-ufo-add-message-is : Determined 2 hp-ufo-add-message.ps hp-ufo-add-message.r (List ℕ) (λ κs s. s.1.1.0.now)
    hp-ufo-add-message-reads.Post
hp-ufo-add-message-is κs a x y s t = same-flat-reply

hp-memx-write-is : Determined 3 hp-memx-write.ps hp-memx-write.r (List ℕ) (λ κs s. s.1.1.1.0.now) hp-memx-write-reads.Post
hp-memx-write-is κs a x y s t = same-flat-reply

hp-tcp-write-is : Determined 2 hp-tcp-write.ps hp-tcp-write.r (List ℕ) (λ κs s. s.1.1.0.now) hp-tcp-write-reads.Post
hp-tcp-write-is κs a x y s t = same-flat-reply

hp-soup-take-is : Determined 2 hp-soup-take.ps hp-soup-take.r (List ℕ) (λ κs s. s.1.0.now) hp-soup-take-reads.Post
hp-soup-take-is κs a x y s t = same-piece

hp-open-ufo-is : Answered 1 hp-open-ufo.ps hp-open-ufo.r hp-open-ufo-reads.Post
hp-open-ufo-is κs a x y s t = same_answer

hp-open-memx-is : Answered 0 hp-open-memx.ps hp-open-memx.r hp-open-memx-reads.Post
hp-open-memx-is κs a x y s t = same_answer

hp-take-is : Determined 3 hp-take.ps hp-take.r (List ℕ × List ℕ) (λ κs s. (s.1.0.now, s.1.1.1.0.now)) hp-take-reads.Post
hp-take-is κs a x y s t = same_taken

hp-standing-of-is : Answered 0 hp-standing-of.ps hp-standing-of.r hp-standing-of-reads.Post
hp-standing-of-is κs a x y s t = same_answer

hp-missing-range-is : Answered 0 hp-missing-range.ps hp-missing-range.r hp-missing-range-reads.Post
hp-missing-range-is κs a x y s t = same_answer

hp-ask-is : Answered 0 hp-ask.ps hp-ask.r hp-ask-reads.Post
hp-ask-is κs a x y s t = same_answer

hp-time-is : Answered 0 hp-time.ps hp-time.r hp-time-reads.Post
hp-time-is κs a x y s t = same_answer

hp-wait-of-is : Answered 0 hp-wait-of.ps hp-wait-of.r hp-wait-of-reads.Post
hp-wait-of-is κs a x y s t = same_answer

hp-line-lost-is : Answered 0 hp-line-lost.ps hp-line-lost.r hp-line-lost-reads.Post
hp-line-lost-is κs a x y s t = same_answer

hp-heartbeat-due-is : Answered 0 hp-heartbeat-due.ps hp-heartbeat-due.r hp-heartbeat-due-reads.Post
hp-heartbeat-due-is κs a x y s t = same_answer

hp-log-add-is : Determined 2 hp-log-add.ps hp-log-add.r (List ℕ) (λ κs s. s.1.0.now) hp-log-add-reads.Post
hp-log-add-is κs a x y s t = same-entered

hp-log-add-many-is : Determined 2 hp-log-add-many.ps hp-log-add-many.r (List ℕ) (λ κs s. s.1.0.now) hp-log-add-many-reads.Post
hp-log-add-many-is κs a x y s t = same-entered

hp-log-declare-end-is : Answered 1 hp-log-declare-end.ps hp-log-declare-end.r hp-log-declare-end-reads.Post
hp-log-declare-end-is κs a x y s t = same_answer

hp-log-answer-is : Determined 2 hp-log-answer.ps hp-log-answer.r (List ℕ) (λ κs s. s.1.1.1.1.0.now) hp-log-answer-reads.Post
hp-log-answer-is κs a x y s t = same-flat-reply

hp-log-heartbeat-is : Determined 2 hp-log-heartbeat.ps hp-log-heartbeat.r (List ℕ) (λ κs s. s.1.1.0.now) hp-log-heartbeat-reads.Post
hp-log-heartbeat-is κs a x y s t = same-flat-reply

hp-log-end-packet-is : Determined 2 hp-log-end-packet.ps hp-log-end-packet.r (List ℕ) (λ κs s. s.1.1.0.now)
    hp-log-end-packet-reads.Post
hp-log-end-packet-is κs a x y s t = same-flat-reply
