pub mod ToSend
